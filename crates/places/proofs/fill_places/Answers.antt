use Rattle.places.proofs.Places.{counted_none, counted_one, counted_all}
use Rattle.places.proofs.fill_places.Goals as goal

pub loop-i-init : goal.loop-i-init
loop-i-init c = counted_none _ _ _ c.has_room.ensures c.if-not-has_room.false

pub loop-i-preserved : goal.loop-i-preserved
loop-i-preserved c =
    let l = c.loop-i in
    counted_one _ _ _ l.auto.i c.loop-i-test.true l.invariant c.kind_at.ensures c.seconds_of-l.ensures c.short.ensures

pub returns-else-not-has_room : goal.returns-else-not-has_room
returns-else-not-has_room c = counted_all _ _ _ c.loop-i-test.false c.loop-i.invariant
