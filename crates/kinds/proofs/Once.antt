-- For every public function: any two answers that its contract allows are equal. The contract is the function's own, as the check
-- reads it from the source.
use mathlib.Core.Path.{◌≡◌}
use Rattle.kinds.proofs.row_of.Reads as row_of

row_of_once : (κs : _) (a : _) (r r' : _) (e e' : _) → row_of.Learnt κs a r e → row_of.Learnt κs a r' e' → r ≡ r'
row_of_once κs a r r' e e' p q = cc
