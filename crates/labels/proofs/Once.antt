-- For every public function: any two answers that its contract allows are equal. The contract is the function's own, as the check
-- reads it from the source.
use mathlib.Core.Path.{◌≡◌}
use Rattle.labels.proofs.target.Reads as target
use Rattle.labels.proofs.target2.Reads as target2
use Rattle.labels.proofs.place_of.Reads as place_of
use Rattle.labels.proofs.lost_goto.Reads as lost_goto

target_once : (κs : _) (a : _) (r r' : _) (e e' : _) → target.Learnt κs a r e → target.Learnt κs a r' e' → r ≡ r'
target_once κs a r r' e e' p q = cc

target2_once : (κs : _) (a : _) (r r' : _) (e e' : _) → target2.Learnt κs a r e → target2.Learnt κs a r' e' → r ≡ r'
target2_once κs a r r' e e' p q = cc

place_of_once : (κs : _) (a : _) (r r' : _) (e e' : _) → place_of.Learnt κs a r e → place_of.Learnt κs a r' e' → r ≡ r'
place_of_once κs a r r' e e' p q = cc

lost_goto_once : (κs : _) (a : _) (r r' : _) (e e' : _) → lost_goto.Learnt κs a r e → lost_goto.Learnt κs a r' e' → r ≡ r'
lost_goto_once κs a r r' e e' p q = cc
