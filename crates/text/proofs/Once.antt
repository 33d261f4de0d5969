-- For every public function: any two answers that its contract allows are equal. The contract is the function's own, as the check
-- reads it from the source.
use mathlib.Core.Path.{◌≡◌}
use Rattle.text.proofs.TextRefusalFromRefusal.from.Reads as from

from_once : (κs : _) (a : _) (r r' : _) (e e' : _) → from.Learnt κs a r e → from.Learnt κs a r' e' → r ≡ r'
from_once κs a r r' e e' p q = cc
