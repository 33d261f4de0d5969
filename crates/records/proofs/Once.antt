-- For every public function: any two answers that its contract allows are equal, and so is what each lent buffer then holds. The
-- contract is the function's own, as the check reads it from the source.
use mathlib.Core.Path.{◌≡◌}
use Rattle.records.proofs.number.Reads as number
use Rattle.records.proofs.record_at.Reads as record_at
use Rattle.records.proofs.kind_at.Reads as kind_at
use Rattle.records.proofs.x_at.Reads as x_at_lem
use Rattle.records.proofs.y_at.Reads as y_at_lem
use Rattle.records.proofs.jump.Reads as jump
use Rattle.records.proofs.put_record.Reads as put_record
use Rattle.records.proofs.clear.Reads as clear

number_once : (κs : _) (a : _) (r r' : _) (e e' : _) → number.Learnt κs a r e → number.Learnt κs a r' e' → r ≡ r'
number_once κs a r r' e e' p q = cc

record_at_once : (κs : _) (a : _) (r r' : _) (e e' : _) → record_at.Learnt κs a r e → record_at.Learnt κs a r' e' → r ≡ r'
record_at_once κs a r r' e e' p q = cc

kind_at_once : (κs : _) (a : _) (r r' : _) (e e' : _) → kind_at.Learnt κs a r e → kind_at.Learnt κs a r' e' → r ≡ r'
kind_at_once κs a r r' e e' p q = cc

x_at_once : (κs : _) (a : _) (r r' : _) (e e' : _) → x_at_lem.Learnt κs a r e → x_at_lem.Learnt κs a r' e' → r ≡ r'
x_at_once κs a r r' e e' p q = cc

y_at_once : (κs : _) (a : _) (r r' : _) (e e' : _) → y_at_lem.Learnt κs a r e → y_at_lem.Learnt κs a r' e' → r ≡ r'
y_at_once κs a r r' e e' p q = cc

jump_once : (κs : _) (a : _) (r r' : _) (e e' : _) → jump.Learnt κs a r e → jump.Learnt κs a r' e' → r ≡ r'
jump_once κs a r r' e e' p q = cc

put_record_once : (κs : _) (a : _) (r r' : _) (e e' : _) → put_record.Learnt κs a r e → put_record.Learnt κs a r' e' → (r ≡ r') × (e.0.now ≡ e'.0.now)
put_record_once κs a r r' e e' p q = (cc, cc)

clear_once : (κs : _) (a : _) (r r' : _) (e e' : _) → clear.Learnt κs a r e → clear.Learnt κs a r' e' → e.0.now ≡ e'.0.now
clear_once κs a r r' e e' p q = cc
