-- For every public function: any two answers that its contract allows are equal, and so is what the lent text then holds. The contract
-- is the function's own, as the check reads it from the source.
use mathlib.Core.Path.{◌≡◌}
use Rattle.show.proofs.put_written.Reads as Put-written
use Rattle.show.proofs.put_answer.Reads as put_answer

put_written_once : (κs : _) (a : _) (r r' : _) (e e' : _) → Put-written.Learnt κs a r e → Put-written.Learnt κs a r' e' → (r ≡ r') × (e.1.0.now ≡ e'.1.0.now)
put_written_once κs a r r' e e' p q = (cc, cc)

put_answer_once : (κs : _) (a : _) (r r' : _) (e e' : _) → put_answer.Learnt κs a r e → put_answer.Learnt κs a r' e' → (r ≡ r') × (e.1.0.now ≡ e'.1.0.now)
put_answer_once κs a r r' e e' p q = (cc, cc)
