-- For every public function: any two answers that its contract allows are equal. The contract is the function's own, as the check
-- reads it from the source.
use mathlib.Core.Path.{◌≡◌}
use Rattle.jump_forms.proofs.jumps.Reads as jumps
use Rattle.jump_forms.proofs.actions.Reads as actions

jumps_once : (κs : _) (a : _) (r r' : _) (e e' : _) → jumps.Learnt κs a r e → jumps.Learnt κs a r' e' → r ≡ r'
jumps_once κs a r r' e e' p q = cc

actions_once : (κs : _) (a : _) (r r' : _) (e e' : _) → actions.Learnt κs a r e → actions.Learnt κs a r' e' → r ≡ r'
actions_once κs a r r' e e' p q = cc
