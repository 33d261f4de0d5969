use mathlib.Core.Path.{refl, ◌∙◌}
use Prim.Native.Nat.{◌+◌, ◌-◌}
use native.Mathlib.Omega.{arith}
use Rattle.rules.specs.Instruction.{loop}
use Rattle.laws.proofs.Partners.{back}
use Rattle.tables.specs.Passing.{open_at}
use Rattle.tables.proofs.Filling.{begun, entered, all_entered}
use Rattle.tables.proofs.Headers.{head_next}
use Rattle.tables.proofs.fill_headers.Goals as goal

pub loop-i-init : goal.loop-i-init
unfolding open_at back
loop-i-init c = record { top = refl; entries = begun _ _ _ _ c.has_room.ensures c.if-not-has_room.false }

pub loop-i-preserved : goal.loop-i-preserved
loop-i-preserved c =
    let l = c.loop-i in
    record {
      top = c.enter-top.ensures ∙ head_next loop _ l.i _ l.auto.i c.loop-i-test.true l.invariant.top l.invariant.entries;
      entries = entered _ 0 (l.i + 1 - 1) l.i _ l.auto.i c.loop-i-test.true l.invariant.top (λ k a b z. (a, omega arith)) l.invariant.entries;
    }

pub returns-else-not-has_room : goal.returns-else-not-has_room
returns-else-not-has_room c = all_entered _ _ refl (omega arith) c.loop-i.invariant.entries
