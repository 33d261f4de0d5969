-- Any two answers that the contract of the public function allows are equal, and so is what the lent text then holds. The contract is the
-- function's own, as the check reads it from the source.
use mathlib.Core.Path.{◌≡◌}
use Rattle.words.proofs.put_instruction.Reads as put_instruction

put_instruction_once : (κs : _) (a : _) (r r' : _) (e e' : _) → put_instruction.Learnt κs a r e → put_instruction.Learnt κs a r' e' → (r ≡ r') × (e.1.0.now ≡ e'.1.0.now)
put_instruction_once κs a r r' e e' p q = (cc, cc)
