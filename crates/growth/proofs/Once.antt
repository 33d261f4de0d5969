-- For every public function: any two answers that its contract allows are equal. The contract is the function's own, as the check
-- reads it from the source.
use mathlib.Core.Path.{◌≡◌}
use Rattle.growth.proofs.skip_place.Reads as skip_place
use Rattle.growth.proofs.base_count.Reads as base_count

skip_place_once : (κs : _) (a : _) (r r' : _) (e e' : _) → skip_place.Learnt κs a r e → skip_place.Learnt κs a r' e' → r ≡ r'
skip_place_once κs a r r' e e' p q = cc

base_count_once : (κs : _) (a : _) (r r' : _) (e e' : _) → base_count.Learnt κs a r e → base_count.Learnt κs a r' e' → r ≡ r'
base_count_once κs a r r' e e' p q = cc
