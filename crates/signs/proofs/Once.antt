-- For every public function: any two answers that its contract allows are equal. The contract is the function's own, as the check
-- reads it from the source.
use mathlib.Core.Path.{◌≡◌}
use Rattle.signs.proofs.signs_of.Reads as signs_of
use Rattle.signs.proofs.sign.Reads as sign
use Rattle.signs.proofs.letter_of.Reads as letter_of

signs_of_once : (κs : _) (a : _) (r r' : _) (e e' : _) → signs_of.Learnt κs a r e → signs_of.Learnt κs a r' e' → r.now ≡ r'.now
signs_of_once κs a r r' e e' p q = cc

sign_once : (κs : _) (a : _) (r r' : _) (e e' : _) → sign.Learnt κs a r e → sign.Learnt κs a r' e' → r ≡ r'
sign_once κs a r r' e e' p q = cc

letter_of_once : (κs : _) (a : _) (r r' : _) (e e' : _) → letter_of.Learnt κs a r e → letter_of.Learnt κs a r' e' → r ≡ r'
letter_of_once κs a r r' e e' p q = cc
