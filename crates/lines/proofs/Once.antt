-- For every public function: any two answers that its contract allows are equal, and so is what the lent text then holds. The contract
-- is the function's own, as the check reads it from the source.
use mathlib.Core.Path.{◌≡◌}
use Rattle.lines.proofs.put_listing.Reads as put_listing
use Rattle.lines.proofs.refused_line.Reads as refused_line

put_listing_once : (κs : _) (a : _) (r r' : _) (e e' : _) → put_listing.Learnt κs a r e → put_listing.Learnt κs a r' e' → (r ≡ r') × (e.1.1.0.now ≡ e'.1.1.0.now)
put_listing_once κs a r r' e e' p q = (cc, cc)

refused_line_once : (κs : _) (a : _) (r r' : _) (e e' : _) → refused_line.Learnt κs a r e → refused_line.Learnt κs a r' e' → (r ≡ r') × (e.1.0.now ≡ e'.1.0.now)
refused_line_once κs a r r' e e' p q = (cc, cc)
