-- For every public function: any two answers that its contract allows are equal, and so is what each lent table then holds. The
-- contract is the function's own, as the check reads it from the source.
use mathlib.Core.Path.{◌≡◌}
use Rattle.name_index.proofs.indexed_action.Reads as indexed_action
use Rattle.name_index.proofs.fill_index.Reads as fill_index

indexed_action_once : (κs : _) (a : _) (r r' : _) (e e' : _) → indexed_action.Learnt κs a r e → indexed_action.Learnt κs a r' e' → r ≡ r'
indexed_action_once κs a r r' e e' p q = cc

fill_index_once : (κs : _) (a : _) (r r' : _) (e e' : _) → fill_index.Learnt κs a r e → fill_index.Learnt κs a r' e'
    → (r ≡ r') × (e.1.0.now ≡ e'.1.0.now) × (e.1.1.0.now ≡ e'.1.1.0.now)
fill_index_once κs a r r' e e' p q = (cc, cc, cc)
