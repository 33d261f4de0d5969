-- Any two answers that the writer's contract allows are equal, and so is what the text then holds. The contract is the function's own,
-- as the check reads it from the source.
use mathlib.Core.Path.{◌≡◌}
use Rattle.writer.proofs.write_text.Reads as write_text

write_text_once : (κs : _) (a : _) (r r' : _) (e e' : _) → write_text.Learnt κs a r e → write_text.Learnt κs a r' e' → (r ≡ r') × (e.1.1.0.now ≡ e'.1.1.0.now)
write_text_once κs a r r' e e' p q = (cc, cc)
