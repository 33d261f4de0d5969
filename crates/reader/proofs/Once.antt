-- Any two answers that the reader's contract allows are equal, and so is what the output then holds. The contract is the function's
-- own, as the check reads it from the source.
use mathlib.Core.Path.{◌≡◌}
use Rattle.reader.proofs.read_text.Reads as read_text

read_text_once : (κs : _) (a : _) (r r' : _) (e e' : _) → read_text.Learnt κs a r e → read_text.Learnt κs a r' e' → (r ≡ r') × (e.1.1.0.now ≡ e'.1.1.0.now)
read_text_once κs a r r' e e' p q = (cc, cc)
