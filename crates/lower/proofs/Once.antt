-- Any two answers that the contract of convert allows are equal, and so is what the output and the working buffer then hold. The
-- contract is the function's own, as the check reads it from the source.
use mathlib.Core.Path.{◌≡◌}
use Rattle.lower.proofs.convert.Reads as convert

convert_once : (κs : _) (a : _) (r r' : _) (e e' : _) → convert.Learnt κs a r e → convert.Learnt κs a r' e'
    → (r ≡ r') × (e.1.0.now ≡ e'.1.0.now) × (e.1.1.0.now ≡ e'.1.1.0.now)
convert_once κs a r r' e e' p q = (cc, cc, cc)
