use native.Mathlib.Omega.{arith}
use Rattle.places.proofs.Places.{there}
use Rattle.calls.proofs.CallsExpansion.write_group.Goals as goal

pub overflow_add-i : goal.overflow_add-i
overflow_add-i c = omega (arith, there _ _ c.record_at-kind.ensures (λ z. omega arith))

pub overflow_cast-i : goal.overflow_cast-i
overflow_cast-i c = omega (arith, there _ _ c.record_at-kind.ensures (λ z. omega arith))

pub write_chain-requires : goal.write_chain-requires
write_chain-requires c = let r = there _ _ c.record_at-kind.ensures (λ z. omega arith) in (omega arith, omega arith)
