-- For every public function: any two answers that its contract allows are equal. The contract is the function's own, as the check
-- reads it from the source.
use mathlib.Core.Path.{◌≡◌}
use Rattle.checks.proofs.check_records.Reads as check_records
use Rattle.checks.proofs.check_base.Reads as check_base
use Rattle.checks.proofs.check_relative.Reads as check_relative

check_records_once : (κs : _) (a : _) (r r' : _) (e e' : _) → check_records.Learnt κs a r e → check_records.Learnt κs a r' e' → r ≡ r'
check_records_once κs a r r' e e' p q = cc

check_base_once : (κs : _) (a : _) (r r' : _) (e e' : _) → check_base.Learnt κs a r e → check_base.Learnt κs a r' e' → r ≡ r'
check_base_once κs a r r' e e' p q = cc

check_relative_once : (κs : _) (a : _) (r r' : _) (e e' : _) → check_relative.Learnt κs a r e → check_relative.Learnt κs a r' e' → r ≡ r'
check_relative_once κs a r r' e e' p q = cc
