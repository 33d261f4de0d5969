use mathlib.Core.Path.{sym, ◌∙◌}
use native.Mathlib.Omega.{arith}
use mathlib.Core.Bool.{true}
use Rattle.laws.proofs.Records.{ops-length}
use Rattle.tables.proofs.Filling.{begun, entered, all_entered}
use Rattle.tables.proofs.Stops.{out, entry_known, top-next}
use Rattle.tables.proofs.fill_stops.Goals as goal

pub loop-i-init : goal.loop-i-init
loop-i-init c = record { top = sym (out _ _ true 0 _ (omega (arith, ops-length c.args.s.now))); entries = begun _ _ _ _ c.has_room.ensures c.if-not-has_room.false }

pub loop-i-preserved : goal.loop-i-preserved
loop-i-preserved c =
    let l = c.loop-i in
    let p = c.pass-top.ensures in
    record {
      top = p.behind ∙ top-next _ _ l.invariant.top l.invariant.entries c.loop-i-test.true l.auto.i;
      entries = rw p.entry (entered _ _ _ l.i _ c.loop-i-test.true l.auto.i (entry_known _ _ l.invariant.top l.invariant.entries) (λ k a b z. (omega arith, b)) l.invariant.entries);
    }

pub returns : goal.returns
returns c = all_entered _ _ (omega arith) (omega arith) c.loop-i.invariant.entries
