-- For every public function: any two answers that its contract allows are equal. The contract is the function's own, as the check
-- reads it from the source.
use mathlib.Core.Path.{◌≡◌}
use Rattle.label_forms.proofs.label.Reads as label
use Rattle.label_forms.proofs.gotos.Reads as gotos

label_once : (κs : _) (a : _) (r r' : _) (e e' : _) → label.Learnt κs a r e → label.Learnt κs a r' e' → r ≡ r'
label_once κs a r r' e e' p q = cc

gotos_once : (κs : _) (a : _) (r r' : _) (e e' : _) → gotos.Learnt κs a r e → gotos.Learnt κs a r' e' → r ≡ r'
gotos_once κs a r r' e e' p q = cc
