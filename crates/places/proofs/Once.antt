-- For every public function: any two answers that its contract allows are equal, and so is what the output or the table then holds. The contract is
-- the function's own, as the check reads it from the source.
use mathlib.Core.Path.{◌≡◌}
use Rattle.places.proofs.expansion.write_groups.Reads as write_groups
use Rattle.places.proofs.fill_places.Reads as fill_places
use Rattle.places.proofs.look_past.Reads as look_past
use Rattle.places.proofs.put_kept.Reads as put_kept
use Rattle.places.proofs.put_pair.Reads as put_pair

fill_places_once : (κs : _) (a : _) (r r' : _) (e e' : _) → fill_places.Learnt κs a r e → fill_places.Learnt κs a r' e' → e.1.1.0.now ≡ e'.1.1.0.now
fill_places_once κs a r r' e e' p q = cc

look_past_once : (κs : _) (a : _) (r r' : _) (e e' : _) → look_past.Learnt κs a r e → look_past.Learnt κs a r' e' → r ≡ r'
look_past_once κs a r r' e e' p q = cc

put_kept_once : (κs : _) (a : _) (r r' : _) (e e' : _) → put_kept.Learnt κs a r e → put_kept.Learnt κs a r' e' → (r ≡ r') × (e.1.1.1.0.now ≡ e'.1.1.1.0.now)
put_kept_once κs a r r' e e' p q = (cc, cc)

put_pair_once : (κs : _) (a : _) (r r' : _) (e e' : _) → put_pair.Learnt κs a r e → put_pair.Learnt κs a r' e' → (r ≡ r') × (e.0.now ≡ e'.0.now)
put_pair_once κs a r r' e e' p q = (cc, cc)

-- At any stage: E, and what it brings.
write_groups_once : (E : _) (l : _) (m : _) (x : _) (d : _) (κs : _) (a : _) (r r' : _) (e e' : _) → write_groups.Learnt E l m x d κs a r e → write_groups.Learnt E l m x d κs a r' e' → (r ≡ r') × (e.1.0.now ≡ e'.1.0.now)
write_groups_once E l m x d κs a r r' e e' p q = (cc, cc)
