-- For every public function: any two answers that its contract allows are equal, and of a part of a text its bytes. The
-- contract is the function's own, as the check reads it from the source.
use mathlib.Core.Path.{◌≡◌}
use Rattle.names.proofs.list_fault.Reads as list_fault
use Rattle.names.proofs.is_proper.Reads as is_proper
use Rattle.names.proofs.name_at.Reads as name_at
use Rattle.names.proofs.name_of.Reads as name_of
use Rattle.names.proofs.number_at.Reads as number_at

list_fault_once : (κs : _) (a : _) (r r' : _) (e e' : _) → list_fault.Learnt κs a r e → list_fault.Learnt κs a r' e' → r ≡ r'
list_fault_once κs a r r' e e' p q = cc

is_proper_once : (κs : _) (a : _) (r r' : _) (e e' : _) → is_proper.Learnt κs a r e → is_proper.Learnt κs a r' e' → r ≡ r'
is_proper_once κs a r r' e e' p q = cc

name_at_once : (κs : _) (a : _) (r r' : _) (e e' : _) → name_at.Learnt κs a r e → name_at.Learnt κs a r' e' → r.now ≡ r'.now
name_at_once κs a r r' e e' p q = cc

name_of_once : (κs : _) (a : _) (r r' : _) (e e' : _) → name_of.Learnt κs a r e → name_of.Learnt κs a r' e' → r.now ≡ r'.now
name_of_once κs a r r' e e' p q = cc

number_at_once : (κs : _) (a : _) (r r' : _) (e e' : _) → number_at.Learnt κs a r e → number_at.Learnt κs a r' e' → r ≡ r'
number_at_once κs a r r' e e' p q = cc
