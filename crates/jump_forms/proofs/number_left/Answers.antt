use native.Mathlib.Omega.{arith}
use Rattle.parts.proofs.Further.{number_ends}
use Rattle.jump_forms.proofs.number_left.Goals as goal

pub overflow_add-at : goal.overflow_add-at
overflow_add-at c = let a = c.args in omega (arith, number_ends a.s.now a.at c.in-Ok.e _ c.take_number.ensures c.in-Ok.is)
