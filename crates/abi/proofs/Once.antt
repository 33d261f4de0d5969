-- For every exported function: any two answers that its contract allows are equal, and so is what each lent buffer then holds. The
-- contract is the function's own, as the check reads it from the source.
use mathlib.Core.Path.{◌≡◌}
use Rattle.abi.proofs.qh_check_routine.Reads as check_routine
use Rattle.abi.proofs.qh_check_base.Reads as check_base
use Rattle.abi.proofs.qh_check_relative.Reads as check_relative
use Rattle.abi.proofs.qh_convert.Reads as convert
use Rattle.abi.proofs.qh_list.Reads as list
use Rattle.abi.proofs.qh_read_text.Reads as read_text
use Rattle.abi.proofs.qh_write_text.Reads as write_text
use Rattle.abi.proofs.qh_to_relative.Reads as to_relative
use Rattle.abi.proofs.qh_to_absolute.Reads as to_absolute
use Rattle.abi.proofs.qh_run_routine.Reads as run_routine
use Rattle.abi.proofs.qh_run_base.Reads as run_base
use Rattle.abi.proofs.qh_step_routine.Reads as step_routine
use Rattle.abi.proofs.qh_step_base.Reads as step_base

check_routine_once : (κs : _) (a : _) (r r' : _) (e e' : _) → check_routine.Learnt κs a r e → check_routine.Learnt κs a r' e' → r ≡ r'
check_routine_once κs a r r' e e' p q = cc

check_base_once : (κs : _) (a : _) (r r' : _) (e e' : _) → check_base.Learnt κs a r e → check_base.Learnt κs a r' e' → r ≡ r'
check_base_once κs a r r' e e' p q = cc

check_relative_once : (κs : _) (a : _) (r r' : _) (e e' : _) → check_relative.Learnt κs a r e → check_relative.Learnt κs a r' e' → r ≡ r'
check_relative_once κs a r r' e e' p q = cc

to_relative_once : (κs : _) (a : _) (r r' : _) (e e' : _) → to_relative.Learnt κs a r e → to_relative.Learnt κs a r' e' → (r ≡ r') × (e.1.0.now ≡ e'.1.0.now)
to_relative_once κs a r r' e e' p q = (cc, cc)

to_absolute_once : (κs : _) (a : _) (r r' : _) (e e' : _) → to_absolute.Learnt κs a r e → to_absolute.Learnt κs a r' e' → (r ≡ r') × (e.1.0.now ≡ e'.1.0.now)
to_absolute_once κs a r r' e e' p q = (cc, cc)

run_routine_once : (κs : _) (a : _) (r r' : _) (e e' : _) → run_routine.Learnt κs a r e → run_routine.Learnt κs a r' e' → (r ≡ r') × (e.1.1.0.now ≡ e'.1.1.0.now)
run_routine_once κs a r r' e e' p q = (cc, cc)

run_base_once : (κs : _) (a : _) (r r' : _) (e e' : _) → run_base.Learnt κs a r e → run_base.Learnt κs a r' e' → (r ≡ r') × (e.1.1.0.now ≡ e'.1.1.0.now)
run_base_once κs a r r' e e' p q = (cc, cc)

step_routine_once : (κs : _) (a : _) (r r' : _) (e e' : _) → step_routine.Learnt κs a r e → step_routine.Learnt κs a r' e' → (r ≡ r') × (e.1.1.0.now ≡ e'.1.1.0.now)
step_routine_once κs a r r' e e' p q = (cc, cc)

step_base_once : (κs : _) (a : _) (r r' : _) (e e' : _) → step_base.Learnt κs a r e → step_base.Learnt κs a r' e' → (r ≡ r') × (e.1.1.0.now ≡ e'.1.1.0.now)
step_base_once κs a r r' e e' p q = (cc, cc)

convert_once : (κs : _) (a : _) (r r' : _) (e e' : _) → convert.Learnt κs a r e → convert.Learnt κs a r' e'
    → (r ≡ r') × (e.1.0.now ≡ e'.1.0.now) × (e.1.1.0.now ≡ e'.1.1.0.now)
convert_once κs a r r' e e' p q = (cc, cc, cc)

list_once : (κs : _) (a : _) (r r' : _) (e e' : _) → list.Learnt κs a r e → list.Learnt κs a r' e' → (r ≡ r') × (e.1.0.now ≡ e'.1.0.now)
list_once κs a r r' e e' p q = (cc, cc)

read_text_once : (κs : _) (a : _) (r r' : _) (e e' : _) → read_text.Learnt κs a r e → read_text.Learnt κs a r' e' → (r ≡ r') × (e.1.1.0.now ≡ e'.1.1.0.now)
read_text_once κs a r r' e e' p q = (cc, cc)

write_text_once : (κs : _) (a : _) (r r' : _) (e e' : _) → write_text.Learnt κs a r e → write_text.Learnt κs a r' e' → (r ≡ r') × (e.1.1.0.now ≡ e'.1.1.0.now)
write_text_once κs a r r' e e' p q = (cc, cc)
