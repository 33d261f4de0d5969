-- For every public function: any two answers that its contract allows are equal, and so is what the output then holds. The contract is the
-- function's own, as the check reads it from the source. Of a stage's file: what it holds.
use mathlib.Core.Path.{◌≡◌}
use Rattle.loops.proofs.LoopsExpansion.file.Reads as file
use Rattle.loops.proofs.LoopsExpansion.write_group.Reads as write_group
use Rattle.loops.proofs.expand_loops.Reads as expand_loops

file_once : (κs : _) (a : _) (r r' : _) (e e' : _) → file.Learnt κs a r e → file.Learnt κs a r' e' → r.s.now ≡ r'.s.now
file_once κs a r r' e e' p q = cc

write_group_once : (κs : _) (a : _) (r r' : _) (e e' : _) → write_group.Learnt κs a r e → write_group.Learnt κs a r' e' → (r ≡ r') × (e.1.1.0.now ≡ e'.1.1.0.now)
write_group_once κs a r r' e e' p q = (cc, cc)

expand_loops_once : (κs : _) (a : _) (r r' : _) (e e' : _) → expand_loops.Learnt κs a r e → expand_loops.Learnt κs a r' e' → (r ≡ r') × (e.1.0.now ≡ e'.1.0.now)
expand_loops_once κs a r r' e e' p q = (cc, cc)
