-- For every public function: any two answers that its contract allows are equal. The contract is the function's own, as the check reads
-- it from the source.
use mathlib.Core.Path.{◌≡◌}
use Rattle.told.proofs.QhVerdictFromVerdict.from.Reads as verdict
use Rattle.told.proofs.QhVerdictFromTextVerdict.from.Reads as text_verdict
use Rattle.told.proofs.QhStateFromState.from.Reads as state
use Rattle.told.proofs.StateFromQhState.from.Reads as given
use Rattle.told.proofs.QhRanFromRan.from.Reads as ran

verdict_once : (κs : _) (a : _) (r r' : _) (e e' : _) → verdict.Learnt κs a r e → verdict.Learnt κs a r' e' → r ≡ r'
verdict_once κs a r r' e e' p q = cc

text_verdict_once : (κs : _) (a : _) (r r' : _) (e e' : _) → text_verdict.Learnt κs a r e → text_verdict.Learnt κs a r' e' → r ≡ r'
text_verdict_once κs a r r' e e' p q = cc

state_once : (κs : _) (a : _) (r r' : _) (e e' : _) → state.Learnt κs a r e → state.Learnt κs a r' e' → r ≡ r'
state_once κs a r r' e e' p q = cc

given_once : (κs : _) (a : _) (r r' : _) (e e' : _) → given.Learnt κs a r e → given.Learnt κs a r' e' → r ≡ r'
given_once κs a r r' e e' p q = cc

ran_once : (κs : _) (a : _) (r r' : _) (e e' : _) → ran.Learnt κs a r e → ran.Learnt κs a r' e' → r ≡ r'
ran_once κs a r r' e e' p q = cc
