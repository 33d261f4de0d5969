-- For every public function: any two answers that its contract allows are equal. The contract is the function's own, as the check
-- reads it from the source.
use mathlib.Core.Path.{◌≡◌}
use Rattle.fields.proofs.in_row.Reads as in_row
use Rattle.fields.proofs.own_action.Reads as own_action

in_row_once : (κs : _) (a : _) (r r' : _) (e e' : _) → in_row.Learnt κs a r e → in_row.Learnt κs a r' e' → r ≡ r'
in_row_once κs a r r' e e' p q = cc

own_action_once : (κs : _) (a : _) (r r' : _) (e e' : _) → own_action.Learnt κs a r e → own_action.Learnt κs a r' e' → r ≡ r'
own_action_once κs a r r' e e' p q = cc
