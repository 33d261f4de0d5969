use native.Mathlib.Omega.{arith}
use Rattle.parts.proofs.Further.{name_ends}
use Rattle.label_forms.proofs.second_label.Goals as goal

pub overflow_add-at : goal.overflow_add-at
overflow_add-at c = let a = c.args in omega (arith, name_ends a.s.now a.at c.in-Ok.e _ c.take_name.ensures c.in-Ok.is)
