-- For every public function: any two answers that its contract allows are equal, and so is what the output then holds. The contract is
-- the function's own, as the check reads it from the source.
use mathlib.Core.Path.{◌≡◌}
use Rattle.relative.proofs.to_relative.Reads as to_relative
use Rattle.relative.proofs.to_absolute.Reads as to_absolute

to_relative_once : (κs : _) (a : _) (r r' : _) (e e' : _) → to_relative.Learnt κs a r e → to_relative.Learnt κs a r' e' → (r ≡ r') × (e.1.0.now ≡ e'.1.0.now)
to_relative_once κs a r r' e e' p q = (cc, cc)

to_absolute_once : (κs : _) (a : _) (r r' : _) (e e' : _) → to_absolute.Learnt κs a r e → to_absolute.Learnt κs a r' e' → (r ≡ r') × (e.1.0.now ≡ e'.1.0.now)
to_absolute_once κs a r r' e e' p q = (cc, cc)
