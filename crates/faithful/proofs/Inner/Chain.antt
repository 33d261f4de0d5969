-- The chain for j as it runs: it pops and goes to the number on top where that is in 1..j, and ends otherwise. So a return becomes
-- the chain for the routine's record count. Read as brackets, the chain is one body.
use mathlib.Core.Path.{◌≡◌, refl, ap, ◌∙◌, subst}
use Prim.Native.Nat.{◌≤◌, zero-le}
use native.Mathlib.Omega.{arith}
use mathlib.Core.List.{append_assoc, map-append}
use lib.ListN.{length-append}
use lib.Dec.{eqb-zero-suc, leb-suc-zero}
use borrow.Author.Tests.{le-leb, lt-leb, eqb-true, eqb-false}
use Rattle.std.specs.Prelude.{◌+◌, ◌∷◌, ◌++◌}
use Rattle.rules.specs.Words.{ℕ, zero, suc, Bool, true, false, cond, Option, None, Some, List, [], map, length, eqb, leb}
use Rattle.rules.specs.Instruction.{pop, compare, conditional, Op, act, jump, header, separator, end}
use Rattle.rules.specs.Numbers.{at, given, past, names, move_to}
use Rattle.rules.specs.Nesting.{bracket, Body, nothing, single, two_armed}
use Rattle.rules.specs.Partners.{role, role_of, stop_at, stop_from}
use Rattle.rules.specs.SecondLevel.{members, sent}
use Rattle.rules.specs.Calls.{chain}
use Rattle.rules.specs.Stack.{top, popped, nonempty, equals}
use Rattle.rules.specs.Step.{deed, Mem, with_stack, did, perform, Out, go, halt, agree, branch, leaving, does, step}
use Rattle.faithful.proofs.Inner.Places.{clash, in_or_out, move_in}
use Rattle.faithful.proofs.Inner.Simulation.{fork_cost, link_cost, cost, cost_at, step_is, cost_is, Way, first, in_place, jumped}
use Rattle.faithful.proofs.Inner.Reading.{From, next, from_at, from_length, arm_of_lem}

-- ## What it is

-- The chain for j + 1, and behind it more: the chain for j stands in its second arm.
abbrev linked : (ℕ → ℕ) → ℕ → List Op → List Op
linked Q j os = header conditional true (compare (suc j)) ∷ act pop ∷ jump (Q (suc j)) ∷ separator ∷ os

pub sent-chain : (Q : ℕ → ℕ) (j : ℕ) (rest : List Op)
    → map (sent Q) (members (chain (suc j))) ++ rest ≡ linked Q j (map (sent Q) (members (chain j)) ++ (end conditional ∷ rest))
unfolding members sent chain
sent-chain Q j rest =
    let os = members (chain j) in
    rw (map-append (sent Q) os (end conditional ∷ []), append_assoc (map (sent Q) os) (end conditional ∷ []) rest)

pub chain_body : (Q : ℕ → ℕ) (j : ℕ) → Body (map (sent Q) (members (chain j)))
unfolding members sent chain bracket
chain_body Q zero = single refl nothing
chain_body Q (suc j) =
    rw (map-append (sent Q) (members (chain j)) (end conditional ∷ []))
    (two_armed {first = act pop ∷ jump (Q (suc j)) ∷ []} {rest = []} (single refl (single refl nothing)) (chain_body Q j) nothing)

-- ## What it does

-- What a pop leaves.
abbrev less : Mem → Mem
less m = with_stack (popped m.stack) m

-- The next number down is tried where j + 1 is not on top.
leaving_suc : (j : ℕ) (t : Option ℕ) (m : Mem) → leaving (suc j) t m ≡ cond (equals t (suc j)) (go (suc j) (less m)) (leaving j t m)
unfolding leaving equals names
leaving_suc j None m = refl
leaving_suc j (Some zero) m = rw (eqb-zero-suc j)
leaving_suc j (Some (suc t)) m = by (eqb (suc t) (suc j)) refl
  where
    by : (b : Bool) → eqb (suc t) (suc j) ≡ b
        → cond (leb (suc t) (suc j)) (go (suc t) (less m)) (go 0 m) ≡ cond b (go (suc j) (less m)) (cond (leb (suc t) j) (go (suc t) (less m)) (go 0 m))
    by true e = let q = eqb-true (suc t) (suc j) e in rw (q, le-leb (suc j) (suc j) (omega arith))
    by false e =
        let q = eqb-false (suc t) (suc j) e in
        in_or_out j (suc t)
        (λ h. rw (le-leb (suc t) j h, le-leb (suc t) (suc j) (omega arith)))
        (λ h. rw (lt-leb (suc t) j h, lt-leb (suc t) (suc j) (omega (arith, q))))

leaving_zero : (t : Option ℕ) (m : Mem) → leaving 0 t m ≡ go 0 m
unfolding leaving names
leaving_zero None m = refl
leaving_zero (Some zero) m = refl
leaving_zero (Some (suc t)) m = rw (leb-suc-zero t)

-- What is on top is popped.
popped-top : (m : Mem) (y : ℕ) → equals (top m.stack) y ≡ true → perform pop m ≡ did true (less m)
unfolding perform equals nonempty
popped-top m y e = ap (λ (r : Bool). did r (less m)) (by (top m.stack) e)
  where
    by : (t : Option ℕ) → equals t y ≡ true → nonempty t ≡ true
    by None e = clash cc
    by (Some t) e = refl

module _ (L' : List Op) (n : ℕ) (P Q : ℕ → ℕ) (goes : (t : ℕ) → move_to (length L') (Q t) ≡ P (move_to n t)) where
  -- Steps from q lead to what `leaving` says: it never stops.
  abbrev pub Arrives : ℕ → Mem → ℕ → Out → Type 0
  Arrives q m c (go p m₁) = Way L' q m (P p) m₁ c
  Arrives q m c (halt w) = ⊥

  before : (q r : ℕ) (m : Mem) (b c : ℕ) (x : Out) → step L' q m ≡ go r m → c ≡ cost_at L' q m + b → Arrives r m b x → Arrives q m c x
  before q r m b c (go p m₁) s e w = first s w e
  before q r m b c (halt w) s e a = a

  -- A jump of the chain.
  leads : (q j : ℕ) (m : Mem) → j ≤ n → at L' q ≡ Some (jump (Q j)) → Way L' q m (P j) m 1
  leads q j m h e = subst (λ (p : ℕ). Way L' q m (P p) m 1) (move_in n j h) (jumped L' n P q m j (Q j) e (goes j))

  -- One link: on a match it pops and goes to j + 1, else it goes on to its second arm, which stands four places further.
  module _ (j q : ℕ) (os : List Op) (h : suc j ≤ n) (l : 1 ≤ length os) (t : From L' q (linked Q j os)) (m : Mem) where
    asks : (b : Bool) → equals (top m.stack) (suc j) ≡ b → step L' (suc q) m ≡ go (cond b (suc (suc q)) (suc (suc (suc (suc (suc q)))))) m
    unfolding does deed perform branch agree past given stop_from stop_at role role_of bracket
    asks b e =
        let t₄ = from_length (next (next (next (next t)))) in
        step_is L' (suc q) _ m (from_at t)
        ∙ ap (λ (k : ℕ). go (cond (equals (top m.stack) (suc j)) (move_to (length L') (suc (suc q))) (move_to (length L') (past k))) m) (arm_of_lem t)
        ∙ rw (e, in_place L' n P (suc (suc q)) _ (from_at (next t)), move_in (length L') (suc (suc (suc (suc (suc q))))) (omega arith))

    costs : (b : Bool) → equals (top m.stack) (suc j) ≡ b → cost_at L' (suc q) m ≡ cond b 1 2
    unfolding cost fork_cost perform agree
    costs b e = cost_is L' (suc q) _ m (from_at t) ∙ ap (λ (z : Bool). cond {A = ℕ} z 1 2) e

    link : (c : ℕ) (x : Out) → Arrives (suc (suc (suc (suc (suc q))))) m c x → (b : Bool) → equals (top m.stack) (suc j) ≡ b
        → Arrives (suc q) m (cond b 3 (suc (suc c))) (cond b (go (suc j) (less m)) x)
    unfolding does deed branch agree cost
    link c x w false e = before (suc q) (suc (suc (suc (suc (suc q))))) m c (suc (suc c)) x (asks false e) (omega (arith, costs false e)) w
    link c x w true e =
        let p = suc (suc (suc q)) in
        first {b = 2} (asks true e)
        (first {b = 1}
        (step_is L' (suc (suc q)) _ m (from_at (next t))
        ∙ ap (branch true (move_to (length L') p) (move_to (length L') p)) (popped-top m (suc j) e)
        ∙ ap (λ (z : ℕ). go z (less m)) (in_place L' n P p _ (from_at (next (next t)))))
        (leads p (suc j) (less m) h (from_at (next (next t))))
        (omega (arith, cost_is L' (suc (suc q)) _ m (from_at (next t)))))
        (omega (arith, costs true e))

  pub chain_runs : (j : ℕ) → j ≤ n → (q : ℕ) (rest : List Op) → From L' q (map (sent Q) (members (chain j)) ++ rest) → (m : Mem)
      → Arrives (suc q) m (link_cost j (top m.stack)) (leaving j (top m.stack) m)
  unfolding link_cost members sent chain
  chain_runs zero h q rest t m = rw (leaving_zero (top m.stack) m) (leads (suc q) 0 m zero-le (from_at t))
  chain_runs (suc j) h q rest t m =
      let u = rw (sent-chain Q j rest) at t in
      let xs = map (sent Q) (members (chain j)) in
      let os = xs ++ (end conditional ∷ rest) in
      let r = chain_runs j (omega arith) _ (end conditional ∷ rest) (next (next (next (next u)))) m in
      rw (leaving_suc j (top m.stack) m)
      (link j q os h (omega (arith, length-append xs (end conditional ∷ rest))) u m _ _ r (equals (top m.stack) (suc j)) refl)
