-- For every public function: any two answers that its contract allows are equal. The contract is the function's own, as the check
-- reads it from the source.
use mathlib.Core.Path.{◌≡◌}
use Rattle.forms.proofs.best.Reads as best

best_once : (κs : _) (a : _) (r r' : _) (e e' : _) → best.Learnt κs a r e → best.Learnt κs a r' e' → r ≡ r'
best_once κs a r r' e e' p q = cc
