-- For every public function: any two answers that its contract allows are equal, and so is what the log then holds. The contract is
-- the function's own, as the check reads it from the source.
use mathlib.Core.Path.{◌≡◌}
use Rattle.machine.proofs.run_routine.Reads as run_routine
use Rattle.machine.proofs.run_base.Reads as run_base
use Rattle.machine.proofs.step_routine.Reads as step_routine
use Rattle.machine.proofs.step_base.Reads as step_base

run_routine_once : (κs : _) (a : _) (r r' : _) (e e' : _) → run_routine.Learnt κs a r e → run_routine.Learnt κs a r' e' → (r ≡ r') × (e.1.1.0.now ≡ e'.1.1.0.now)
run_routine_once κs a r r' e e' p q = (cc, cc)

run_base_once : (κs : _) (a : _) (r r' : _) (e e' : _) → run_base.Learnt κs a r e → run_base.Learnt κs a r' e' → (r ≡ r') × (e.1.1.0.now ≡ e'.1.1.0.now)
run_base_once κs a r r' e e' p q = (cc, cc)

step_routine_once : (κs : _) (a : _) (r r' : _) (e e' : _) → step_routine.Learnt κs a r e → step_routine.Learnt κs a r' e' → (r ≡ r') × (e.1.1.0.now ≡ e'.1.1.0.now)
step_routine_once κs a r r' e e' p q = (cc, cc)

step_base_once : (κs : _) (a : _) (r r' : _) (e e' : _) → step_base.Learnt κs a r e → step_base.Learnt κs a r' e' → (r ≡ r') × (e.1.1.0.now ≡ e'.1.1.0.now)
step_base_once κs a r r' e e' p q = (cc, cc)
