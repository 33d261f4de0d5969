use mathlib.Core.Path.{◌≡◌, refl, sym, ◌∙◌}
use native.Mathlib.Omega.{arith}
use borrow.Author.Tests.{lt-ltb, le-ltb}
use Rattle.text.specs.Names.{entries}
use Rattle.name_index.specs.Index.{both}
use Rattle.name_index.proofs.Chain.{entered-none, entered-next, room-long, room_narrow, room-test, room-none, room_all}
use Rattle.name_index.proofs.fill_index.Goals as goal
use Rattle.name_index.proofs.fill_index.Goals.{then-count-gt999-via-then-count-gt999, then-count-gt999-via-else-count-gt999+then-first-lt512, then-count-gt999-via-else-count-gt999+else-first-lt512+then-next-count}

pub returns-then-count-gt999 : goal.returns-then-count-gt999
returns-then-count-gt999 c =
    let a = c.args in
    room-none _ _ _ refl (sym (elim c.then-count-gt999.branch [
      | then-count-gt999-via-then-count-gt999 w ↦ room-long _ _ _ w.if-count-gt999.true
      | then-count-gt999-via-else-count-gt999+then-first-lt512 w ↦ room_narrow a.l.now a.first.now a.next.now (omega arith) w.if-first-lt512.true
      | then-count-gt999-via-else-count-gt999+else-first-lt512+then-next-count w ↦ room-test a.l.now a.first.now a.next.now (omega arith) (omega arith) ∙ le-ltb _ _ w.if-next-count.true
    ]))

pub loop-e-preserved : goal.loop-e-preserved
loop-e-preserved c = let v = c.loop-e in v.invariant ∙ entered-next _ v.first v.next v.e _ (omega arith) (omega arith) c.part_of-h.ensures.0

pub returns : goal.returns
returns c =
    let a = c.args in let v = c.loop-e in let z : v.e ≡ 0 = omega arith in
    room_all a.l.now a.first.now a.next.now (sym (room-test a.l.now a.first.now a.next.now (omega arith) (omega arith) ∙ lt-ltb _ _ (omega arith)))
    (v.invariant ∙ rw z (entered-none (entries a.l.now) (both v.first v.next)))
