-- For every public function: any two answers that its contract allows are equal. The contract is the function's own, as the check reads
-- it from the source.
use mathlib.Core.Path.{◌≡◌}
use Rattle.stack.proofs.names.Reads as names
use Rattle.stack.proofs.StackCounters.fresh.Reads as fresh
use Rattle.stack.proofs.StackCounters.top.Reads as top
use Rattle.stack.proofs.StackCounters.push.Reads as push
use Rattle.stack.proofs.StackCounters.pop.Reads as pop
use Rattle.stack.proofs.StackCounters.top_is.Reads as top_is

names_once : (κs : _) (a : _) (r r' : _) (e e' : _) → names.Learnt κs a r e → names.Learnt κs a r' e' → r ≡ r'
names_once κs a r r' e e' p q = cc

fresh_once : (κs : _) (a : _) (r r' : _) (e e' : _) → fresh.Learnt κs a r e → fresh.Learnt κs a r' e' → r ≡ r'
fresh_once κs a r r' e e' p q = cc

top_once : (κs : _) (a : _) (r r' : _) (e e' : _) → top.Learnt κs a r e → top.Learnt κs a r' e' → r ≡ r'
top_once κs a r r' e e' p q = cc

push_once : (κs : _) (a : _) (r r' : _) (e e' : _) → push.Learnt κs a r e → push.Learnt κs a r' e' → r ≡ r'
push_once κs a r r' e e' p q = cc

pop_once : (κs : _) (a : _) (r r' : _) (e e' : _) → pop.Learnt κs a r e → pop.Learnt κs a r' e' → r ≡ r'
pop_once κs a r r' e e' p q = cc

top_is_once : (κs : _) (a : _) (r r' : _) (e e' : _) → top_is.Learnt κs a r e → top_is.Learnt κs a r' e' → r ≡ r'
top_is_once κs a r r' e e' p q = cc
