-- Any two answers that the contract allows are equal. The contract is the function's own, as the check reads it from the source.
use mathlib.Core.Path.{◌≡◌}
use Rattle.deeds.proofs.deed_at.Reads as deed_at

deed_at_once : (κs : _) (a : _) (r r' : _) (e e' : _) → deed_at.Learnt κs a r e → deed_at.Learnt κs a r' e' → r ≡ r'
deed_at_once κs a r r' e e' p q = cc
