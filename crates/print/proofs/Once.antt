-- For every public function: any two answers that its contract allows are equal, and so is what the lent text then holds. The contract
-- is the function's own, as the check reads it from the source.
use mathlib.Core.Path.{◌≡◌}
use Rattle.print.proofs.put_byte.Reads as put_byte
use Rattle.print.proofs.put_word.Reads as put_word
use Rattle.print.proofs.put_number.Reads as put_number
use Rattle.print.proofs.put_form.Reads as put_form

put_byte_once : (κs : _) (a : _) (r r' : _) (e e' : _) → put_byte.Learnt κs a r e → put_byte.Learnt κs a r' e' → (r ≡ r') × (e.1.0.now ≡ e'.1.0.now)
put_byte_once κs a r r' e e' p q = (cc, cc)

put_word_once : (κs : _) (a : _) (r r' : _) (e e' : _) → put_word.Learnt κs a r e → put_word.Learnt κs a r' e' → (r ≡ r') × (e.1.0.now ≡ e'.1.0.now)
put_word_once κs a r r' e e' p q = (cc, cc)

put_number_once : (κs : _) (a : _) (r r' : _) (e e' : _) → put_number.Learnt κs a r e → put_number.Learnt κs a r' e' → (r ≡ r') × (e.1.0.now ≡ e'.1.0.now)
put_number_once κs a r r' e e' p q = (cc, cc)

put_form_once : (κs : _) (a : _) (r r' : _) (e e' : _) → put_form.Learnt κs a r e → put_form.Learnt κs a r' e' → (r ≡ r') × (e.1.1.1.0.now ≡ e'.1.1.1.0.now)
put_form_once κs a r r' e e' p q = (cc, cc)
