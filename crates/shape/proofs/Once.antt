-- For every public function: any two answers that its contract allows are equal. The contract is the function's own, as the check
-- reads it from the source.
use mathlib.Core.Path.{◌≡◌}
use Rattle.shape.proofs.check.check_routine.Reads as check_routine

check_routine_once : (κs : _) (a : _) (r r' : _) (e e' : _) → check_routine.Learnt κs a r e → check_routine.Learnt κs a r' e' → r ≡ r'
check_routine_once κs a r r' e e' p q = cc
