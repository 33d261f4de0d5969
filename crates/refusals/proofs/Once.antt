-- For every public function: any two answers that its contract allows are equal. The contract is the function's own, as the check reads
-- it from the source.
use mathlib.Core.Path.{◌≡◌}
use Rattle.refusals.proofs.number_of.Reads as number_of_lem
use Rattle.refusals.proofs.place_of.Reads as place_of
use Rattle.refusals.proofs.status_number.Reads as status_number

number_of_once : (κs : _) (a : _) (r r' : _) (e e' : _) → number_of_lem.Learnt κs a r e → number_of_lem.Learnt κs a r' e' → r ≡ r'
number_of_once κs a r r' e e' p q = cc

place_of_once : (κs : _) (a : _) (r r' : _) (e e' : _) → place_of.Learnt κs a r e → place_of.Learnt κs a r' e' → r ≡ r'
place_of_once κs a r r' e e' p q = cc

status_number_once : (κs : _) (a : _) (r r' : _) (e e' : _) → status_number.Learnt κs a r e → status_number.Learnt κs a r' e' → r ≡ r'
status_number_once κs a r r' e e' p q = cc
