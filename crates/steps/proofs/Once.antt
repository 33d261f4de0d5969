-- Any two answers that the contract allows are equal, and so is what the stack, the log and the count of actions then are. The contract is the function's own, as the check reads it from the source.
use mathlib.Core.Path.{◌≡◌, sym, ap, ◌∙◌}
use Prim.Native.Nat.{ℕ}
use native.Mathlib.Omega.{arith}
use Rattle.std.specs.Prelude.{Result, Ok, Err}
use Rattle.rules.specs.declared.Status.{Status}
use Rattle.rules.specs.Step as step
use Rattle.rules.specs.Step.{Mem}
use Rattle.steps.specs.Steps.{Went}
use Rattle.steps.proofs.turn.Reads as turn

-- What a step comes to says the answer and what is there then.
went_once : (o : step.Out) (m : Mem) (r r' : Result ℕ Status) (a b : Mem) → Went o m r a → Went o m r' b → (r ≡ r') × (a ≡ b)
went_once o m (Ok k) (Ok l) a b p q = (cc, cc)
went_once o m (Ok k) (Err w) a b p q = let h = q.0 in absurd (let z : ◌≡◌ {A = ℕ} 0 1 = cc in omega arith)
went_once o m (Err w) (Ok k) a b p q = let h = p.0 in absurd (let z : ◌≡◌ {A = ℕ} 0 1 = cc in omega arith)
went_once o m (Err w) (Err v) a b p q = let h = p.0 in let g = q.0 in (cc, p.1 ∙ sym q.1)

turn_once : (κs : _) (a : _) (r r' : _) (e e' : _) → turn.Learnt κs a r e → turn.Learnt κs a r' e'
    → (r ≡ r')
    × (e.1.1.0.now ≡ e'.1.1.0.now)
    × (e.1.1.1.1.0.now ≡ e'.1.1.1.1.0.now)
    × (e.1.1.1.1.1.0.now ≡ e'.1.1.1.1.1.0.now)
turn_once κs a r r' e e' p q =
    let h = went_once _ _ r r' _ _ p q in
    let m = h.1 in
    (h.0, ap (λ (m : Mem). m.stack) m, ap (λ (m : Mem). m.log) m, ap (λ (m : Mem). m.used) m)
