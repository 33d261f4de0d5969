-- For every public function: any two answers that its contract allows are equal. The contract is the function's own, as the check
-- reads it from the source.
use mathlib.Core.Path.{◌≡◌}
use Rattle.runs.proofs.byte_at.Reads as byte_at
use Rattle.runs.proofs.in_sort.Reads as in_sort
use Rattle.runs.proofs.span_of.Reads as Span_of

byte_at_once : (κs : _) (a : _) (r r' : _) (e e' : _) → byte_at.Learnt κs a r e → byte_at.Learnt κs a r' e' → r ≡ r'
byte_at_once κs a r r' e e' p q = cc

in_sort_once : (κs : _) (a : _) (r r' : _) (e e' : _) → in_sort.Learnt κs a r e → in_sort.Learnt κs a r' e' → r ≡ r'
in_sort_once κs a r r' e e' p q = cc

span_of_once : (κs : _) (a : _) (r r' : _) (e e' : _) → Span_of.Learnt κs a r e → Span_of.Learnt κs a r' e' → r ≡ r'
span_of_once κs a r r' e e' p q = cc
