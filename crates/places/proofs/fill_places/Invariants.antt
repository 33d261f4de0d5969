use Rattle.places.proofs.Places.{Counted}
use Rattle.places.proofs.fill_places.Given as goal

abbrev pub invariant-loop-i : goal.invariant-loop-i
invariant-loop-i v = Counted v.stage v.s v.fn.t v.i v.l v.t
