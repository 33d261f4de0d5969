-- For every public function: any two answers that its contract allows are equal. The contract is the function's own, as the check
-- reads it from the source.
use mathlib.Core.Path.{◌≡◌}
use Rattle.partners.proofs.role_of.Reads as role_of

role_of_once : (κs : _) (a : _) (r r' : _) (e e' : _) → role_of.Learnt κs a r e → role_of.Learnt κs a r' e' → r ≡ r'
role_of_once κs a r r' e e' p q = cc
