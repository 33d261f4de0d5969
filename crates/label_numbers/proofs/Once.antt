-- For every public function: any two answers that its contract allows are equal. The contract is the function's own, as the check
-- reads it from the source.
use mathlib.Core.Path.{◌≡◌}
use Rattle.label_numbers.proofs.label_number.Reads as label_number

label_number_once : (κs : _) (a : _) (r r' : _) (e e' : _) → label_number.Learnt κs a r e → label_number.Learnt κs a r' e' → r ≡ r'
label_number_once κs a r r' e e' p q = cc
