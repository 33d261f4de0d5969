-- For every public function: any two answers that its contract allows are equal. The contract is the function's own, as the check
-- reads it from the source.
use mathlib.Core.Path.{◌≡◌}
use Rattle.parts.proofs.take_name.Reads as take_name
use Rattle.parts.proofs.take_number.Reads as take_number
use Rattle.parts.proofs.stuck.Reads as stuck
use Rattle.parts.proofs.end_of.Reads as end_of_lem
use Rattle.parts.proofs.last_sign.Reads as last_sign

take_name_once : (κs : _) (a : _) (r r' : _) (e e' : _) → take_name.Learnt κs a r e → take_name.Learnt κs a r' e' → r ≡ r'
take_name_once κs a r r' e e' p q = cc

take_number_once : (κs : _) (a : _) (r r' : _) (e e' : _) → take_number.Learnt κs a r e → take_number.Learnt κs a r' e' → r ≡ r'
take_number_once κs a r r' e e' p q = cc

stuck_once : (κs : _) (a : _) (r r' : _) (e e' : _) → stuck.Learnt κs a r e → stuck.Learnt κs a r' e' → r ≡ r'
stuck_once κs a r r' e e' p q = cc

end_of_once : (κs : _) (a : _) (r r' : _) (e e' : _) → end_of_lem.Learnt κs a r e → end_of_lem.Learnt κs a r' e' → r ≡ r'
end_of_once κs a r r' e e' p q = cc

last_sign_once : (κs : _) (a : _) (r r' : _) (e e' : _) → last_sign.Learnt κs a r e → last_sign.Learnt κs a r' e' → r ≡ r'
last_sign_once κs a r r' e e' p q = cc
