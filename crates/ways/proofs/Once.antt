-- What the table then holds is the same for any two answers that the contract allows. The contract is the function's own, as the check
-- reads it from the source.
use mathlib.Core.Path.{◌≡◌}
use Rattle.ways.proofs.fill_ways.Reads as fill_ways

fill_ways_once : (κs : _) (a : _) (r r' : _) (e e' : _) → fill_ways.Learnt κs a r e → fill_ways.Learnt κs a r' e' → e.1.1.1.0.now ≡ e'.1.1.1.0.now
fill_ways_once κs a r r' e e' p q = cc
