use native.Mathlib.Omega.{arith}
use Rattle.tables.proofs.Partners.{stops-made}
use Rattle.places.proofs.Groups.{staged-long}
use Rattle.places.proofs.Places.{places-made}
use Rattle.conditionals.proofs.expand_conditionals.Goals as goal

pub invariant_of-made : goal.invariant_of-made
invariant_of-made c = record {
  led = places-made _ _ 4097 (omega arith) (omega arith) c.fill_places.ensures;
  stopped = stops-made _ 4097 (omega arith) (omega arith) _ c.fill_stops.ensures;
}

pub returns-then-s-gt4096 : goal.returns-then-s-gt4096
returns-then-s-gt4096 c = staged-long _ _ c.if-s-gt4096.true
