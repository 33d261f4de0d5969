-- For every public function: any two answers that its contract allows are equal, and so is what the table then holds. The contract is the
-- function's own, as the check reads it from the source.
use mathlib.Core.Path.{◌≡◌}
use Rattle.tables.proofs.has_room.Reads as has_room
use Rattle.tables.proofs.look.Reads as look
use Rattle.tables.proofs.fill_stops.Reads as fill_stops
use Rattle.tables.proofs.fill_headers.Reads as fill_headers

look_once : (κs : _) (a : _) (r r' : _) (e e' : _) → look.Learnt κs a r e → look.Learnt κs a r' e' → r ≡ r'
look_once κs a r r' e e' p q = cc

fill_stops_once : (κs : _) (a : _) (r r' : _) (e e' : _) → fill_stops.Learnt κs a r e → fill_stops.Learnt κs a r' e' → e.1.1.0.now ≡ e'.1.1.0.now
fill_stops_once κs a r r' e e' p q = cc

fill_headers_once : (κs : _) (a : _) (r r' : _) (e e' : _) → fill_headers.Learnt κs a r e → fill_headers.Learnt κs a r' e' → e.1.0.now ≡ e'.1.0.now
fill_headers_once κs a r r' e e' p q = cc

has_room_once : (κs : _) (a : _) (r r' : _) (e e' : _) → has_room.Learnt κs a r e → has_room.Learnt κs a r' e' → r ≡ r'
has_room_once κs a r r' e e' p q = cc
