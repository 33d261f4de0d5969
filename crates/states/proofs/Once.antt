-- For every public function: any two answers that its contract allows are equal. The contract is the function's own, as the check reads
-- it from the source.
use mathlib.Core.Path.{◌≡◌}
use Rattle.states.proofs.with_replies.Reads as with_replies_lem
use Rattle.states.proofs.with_state.Reads as with_state_lem
use Rattle.states.proofs.turned_away.Reads as turned_away_lem

with_replies_once : (κs : _) (a : _) (r r' : _) (e e' : _) → with_replies_lem.Learnt κs a r e → with_replies_lem.Learnt κs a r' e' → r ≡ r'
with_replies_once κs a r r' e e' p q = cc

with_state_once : (κs : _) (a : _) (r r' : _) (e e' : _) → with_state_lem.Learnt κs a r e → with_state_lem.Learnt κs a r' e' → r ≡ r'
with_state_once κs a r r' e e' p q = cc

turned_away_once : (κs : _) (a : _) (r r' : _) (e e' : _) → turned_away_lem.Learnt κs a r e → turned_away_lem.Learnt κs a r' e' → r ≡ r'
turned_away_once κs a r r' e e' p q = cc
