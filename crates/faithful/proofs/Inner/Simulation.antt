-- One list of instructions does what another does: a step there is a way of steps here, with its cost in steps of the base known.
-- Simulations compose, and keep the cost. At the end, how a deed of the first list is done by records of the second.
use mathlib.Core.Path.{◌≡◌, refl, sym, ap, ◌∙◌, subst}
use Prim.Native.Nat.{◌≤◌, zero-le}
use native.Mathlib.Omega.{arith}
use Rattle.std.specs.Prelude.{◌+◌, ◌∷◌}
use Rattle.rules.specs.Words.{ℕ, zero, suc, Bool, true, false, not, cond, Option, None, Some, List, [], length}
use Rattle.rules.specs.declared.Status.{Status}
use Rattle.rules.specs.Instruction.{Act, push, Op, act, test, jump, label, goto, goto2, header, separator, end, call, return}
use Rattle.rules.specs.Numbers.{at, move_to}
use Rattle.rules.specs.Stack.{top, equals}
use Rattle.rules.specs.Step.{Deed, ask, leap, enter, deed, Mem, Acted, did, stops, perform, Out, go, halt, agree, branch, does, step_at, step}
use Rattle.faithful.proofs.Inner.Places.{clash, move_in}

-- ## What a step costs in the base

-- A header: 1 if its body is entered, else 2.
unfoldable pub fork_cost : Bool → Acted → ℕ
fork_cost v (did r m) = cond (agree v r) 1 2
fork_cost v (stops s) = 1

-- The chain for j, with t on top: 2 for each link that fails, 3 for the one that fits, 1 for the ##0 at its end.
unfoldable pub link_cost : ℕ → Option ℕ → ℕ
link_cost zero t = 1
link_cost (suc j) t = cond (equals t (suc j)) 3 (suc (suc (link_cost j t)))

unfoldable pub cost : ℕ → Op → Mem → ℕ
cost n (header b v a) m = fork_cost v (perform a m)
cost n (call k) m = 2
cost n return m = link_cost n (top m.stack)
cost n (act a) m = 1
cost n (test v a) m = 1
cost n (jump k) m = 1
cost n (label s) m = 1
cost n (goto s) m = 1
cost n (goto2 s t) m = 1
cost n separator m = 1
cost n (end b) m = 1

unfoldable pub cost_of : ℕ → Option Op → Mem → ℕ
cost_of n None m = 1
cost_of n (Some o) m = cost n o m

unfoldable pub cost_at : List Op → ℕ → Mem → ℕ
cost_at L i m = cost_of (length L) (at L i) m

module _ (L : List Op) (i : ℕ) (o : Op) (m : Mem) (e : at L i ≡ Some o) where
  pub step_is : step L i m ≡ does (length L) (deed L i o) m
  unfolding step step_at
  step_is = ap (λ (x : Option Op). step_at L i x m) e

  pub cost_is : cost_at L i m ≡ cost (length L) o m
  unfolding cost_at cost_of
  cost_is = ap (λ (x : Option Op). cost_of (length L) x m) e

-- ## Ways and simulations

-- Steps of L from one position and memory to another, and what they cost.
pub data Way (L : List Op) : ℕ → Mem → ℕ → Mem → ℕ → Type 0 where
  stay : {i : ℕ} {m : Mem} {c : ℕ} → c ≡ 0 → Way L i m i m c
  on : {i : ℕ} {m : Mem} {j : ℕ} {m₁ : Mem} {k : ℕ} {m₂ : Mem} {b c : ℕ} → step L i m ≡ go j m₁ → Way L j m₁ k m₂ b → c ≡ cost_at L i m + b → Way L i m k m₂ c

-- As a function: its numbers are then known where `omega` is to prove the sum.
pub first : {L : List Op} {i : ℕ} {m : Mem} {j : ℕ} {m₁ : Mem} {k : ℕ} {m₂ : Mem} {b c : ℕ}
    → step L i m ≡ go j m₁ → Way L j m₁ k m₂ b → c ≡ cost_at L i m + b → Way L i m k m₂ c
first e w h = on e w h

join : {L : List Op} {i : ℕ} {m : Mem} {j : ℕ} {m₁ : Mem} {k : ℕ} {m₂ : Mem} {b c : ℕ} → Way L i m j m₁ b → Way L j m₁ k m₂ c → Way L i m k m₂ (b + c)
join {L} {k} {m₂} {c} (stay {i = x} {m = y} e) w = subst (λ (n : ℕ). Way L x y k m₂ n) (omega arith) w
join (on e v h) w = first e (join v w) (omega arith)

pub record Sim (L L' : List Op) (P : ℕ → ℕ) : Type 0 where
  pub steps : (i : ℕ) (m : Mem) (j : ℕ) (m₁ : Mem) → step L i m ≡ go j m₁ → Way L' (P i) m (P j) m₁ (cost_at L i m)
  pub halts : (i : ℕ) (m : Mem) (w : Status) → step L i m ≡ halt w → step L' (P i) m ≡ halt w

pub lift : {L L' : List Op} {P : ℕ → ℕ} → Sim L L' P → {i : ℕ} {m : Mem} {j : ℕ} {m₁ : Mem} {c : ℕ} → Way L i m j m₁ c → Way L' (P i) m (P j) m₁ c
lift S (stay e) = stay e
lift {L'} {P} S (on {i} {m} {j} {m₁} {k} {m₂} e w h) = subst (λ (n : ℕ). Way L' (P i) m (P k) m₂ n) (sym h) (join (S.steps i m j m₁ e) (lift S w))

pub both : {L M N : List Op} {P Q : ℕ → ℕ} → Sim L M P → Sim M N Q → Sim L N (λ k. Q (P k))
both {P} S R = record {
  steps = λ i m j m₁ e. lift R (S.steps i m j m₁ e);
  halts = λ i m w e. R.halts (P i) m w (S.halts i m w e);
}

-- What a step gives is met from position q on, at this cost.
abbrev pub Meets : List Op → (ℕ → ℕ) → ℕ → Mem → ℕ → Out → Type 0
Meets L' P q m c (go j m₁) = Way L' q m (P j) m₁ c
Meets L' P q m c (halt w) = step L' q m ≡ halt w

pub go-halt : {i : ℕ} {m : Mem} {w : Status} → halt w ≡ go i m → ⊥
go-halt e = clash cc

-- A simulation, record by record.
pub simulated : (L L' : List Op) (P : ℕ → ℕ)
    → ((i : ℕ) (o : Op) → at L i ≡ Some o → (m : Mem) → Meets L' P (P i) m (cost (length L) o m) (does (length L) (deed L i o) m))
    → ((i : ℕ) → at L i ≡ None → at L' (P i) ≡ None) → Sim L L' P
unfolding step step_at
simulated L L' P met gone = record { steps = λ i m j m₁ e. s i m j m₁ e (at L i) refl; halts = λ i m w e. h i m w e (at L i) refl }
  where
    s : (i : ℕ) (m : Mem) (j : ℕ) (m₁ : Mem) → step L i m ≡ go j m₁ → (x : Option Op) → at L i ≡ x → Way L' (P i) m (P j) m₁ (cost_at L i m)
    s i m j m₁ e None a = absurd (go-halt (sym (ap (λ (x : Option Op). step_at L i x m) a) ∙ e))
    s i m j m₁ e (Some o) a =
        rw (cost_is L i o m a) (subst (λ (x : Out). Meets L' P (P i) m (cost (length L) o m) x) (sym (step_is L i o m a) ∙ e) (met i o a m))

    h : (i : ℕ) (m : Mem) (w : Status) → step L i m ≡ halt w → (x : Option Op) → at L i ≡ x → step L' (P i) m ≡ halt w
    h i m w e None a = ap (λ (x : Option Op). step_at L' (P i) x m) (gone i a) ∙ sym (ap (λ (x : Option Op). step_at L i x m) a) ∙ e
    h i m w e (Some o) a = subst (λ (x : Out). Meets L' P (P i) m (cost (length L) o m) x) (sym (step_is L i o m a) ∙ e) (met i o a m)

-- ## How a deed is done

pub at_in : {A : Type 0} (xs : List A) (i : ℕ) (x : A) → at xs i ≡ Some x → i ≤ length xs
unfolding at
at_in xs zero x e = zero-le
at_in [] (suc k) x e = clash cc
at_in (y ∷ ys) (suc zero) x e = omega arith
at_in (y ∷ ys) (suc (suc k)) x e = omega (arith, at_in ys (suc k) x e)

module _ (L' : List Op) (n : ℕ) (P : ℕ → ℕ) where
  abbrev here : ℕ → ℕ
  here = move_to (length L')

  abbrev there : ℕ → ℕ
  there = move_to n

  -- A number here that leads where the number there does.
  abbrev pub Goes : ℕ → ℕ → Type 0
  Goes t' t = here t' ≡ P (there t)

  pub in_place : (q : ℕ) (o : Op) → at L' q ≡ Some o → here q ≡ q
  in_place q o e = move_in (length L') q (at_in L' q o e)

  chosen : (b : Bool) (t f t' f' : ℕ) → t' ≡ P t → f' ≡ P f → cond b t' f' ≡ P (cond b t f)
  chosen true t f t' f' e g = e
  chosen false t f t' f' e g = g

  module _ (q : ℕ) (m : Mem) where
    -- One step that goes where it should.
    steps_to : {o : Op} {p p' : ℕ} {m₁ : Mem} → at L' q ≡ Some o → step L' q m ≡ go p' m₁ → p' ≡ P p → Way L' q m (P p) m₁ (cost (length L') o m)
    steps_to {o} {m₁} e s g = first (s ∙ ap (λ (z : ℕ). go z m₁) g) (stay refl) (omega (arith, cost_is L' q o m e))

    pub asked : (o : Op) (a : Act) (v : Bool) (t f t' f' : ℕ) → at L' q ≡ Some o → deed L' q o ≡ ask a v t' f' → Goes t' t → Goes f' f
        → Meets L' P q m (cost (length L') o m) (does n (ask a v t f) m)
    unfolding does branch
    asked o a v t f t' f' e d g h = by (perform a m) (step_is L' q o m e ∙ ap (λ (x : Deed). does (length L') x m) d)
      where
        by : (x : Acted) → step L' q m ≡ branch v (here t') (here f') x → Meets L' P q m (cost (length L') o m) (branch v (there t) (there f) x)
        by (did r m₁) s = steps_to e s (chosen (agree v r) (there t) (there f) _ _ g h)
        by (stops w) s = s

    pub leapt : (o : Op) (k k' : ℕ) → at L' q ≡ Some o → deed L' q o ≡ leap k' → Goes k' k → Way L' q m (P (there k)) m (cost (length L') o m)
    unfolding does
    leapt o k k' e d g = steps_to e (step_is L' q o m e ∙ ap (λ (x : Deed). does (length L') x m) d) g

  pub jumped : (q : ℕ) (m : Mem) (k k' : ℕ) → at L' q ≡ Some (jump k') → Goes k' k → Way L' q m (P (there k)) m 1
  unfolding deed cost
  jumped q m k k' e g = leapt q m (jump k') k k' e refl g

  module _ (q : ℕ) (m : Mem) where
    -- A step of cost 1 to the jump that stands next.
    then_jumps : {m₁ : Mem} (k k' : ℕ) → step L' q m ≡ go (here (suc q)) m₁ → cost_at L' q m ≡ 1 → at L' (suc q) ≡ Some (jump k') → Goes k' k
        → Way L' q m (P (there k)) m₁ 2
    then_jumps {m₁} k k' s c e g = first (s ∙ ap (λ (z : ℕ). go z m₁) (in_place (suc q) _ e)) (jumped (suc q) m₁ k k' e g) (omega arith)

    -- A header that became the test turned round, and a jump.
    pub opened : (a : Act) (v : Bool) (t f f' : ℕ) → at L' q ≡ Some (test (not v) a) → at L' (suc q) ≡ Some (jump f') → Goes (suc (suc q)) t → Goes f' f
        → Meets L' P q m (fork_cost v (perform a m)) (does n (ask a v t f) m)
    unfolding does deed cost branch agree fork_cost
    opened a v t f f' e e₁ g h = by (perform a m) (step_is L' q _ m e)
      where
        turned : (v r : Bool) → agree (not v) r ≡ not (agree v r)
        turned true r = refl
        turned false true = refl
        turned false false = refl

        two : (b : Bool) (m₁ : Mem) → step L' q m ≡ go (cond (not b) (here (suc q)) (here (suc (suc q)))) m₁
            → Way L' q m (P (cond b (there t) (there f))) m₁ (cond b 1 2)
        two true m₁ s = steps_to q m e s g
        two false m₁ s = then_jumps f f' s (cost_is L' q _ m e) e₁ h

        by : (x : Acted) → step L' q m ≡ branch (not v) (here (suc q)) (here (suc (suc q))) x → Meets L' P q m (fork_cost v x) (branch v (there t) (there f) x)
        by (did r m₁) s = two (agree v r) m₁ (s ∙ ap (λ (b : Bool). go (cond b (here (suc q)) (here (suc (suc q)))) m₁) (turned v r))
        by (stops w) s = s

    -- A call that became a push and a jump.
    pub called : (r k k' : ℕ) → at L' q ≡ Some (act (push r)) → at L' (suc q) ≡ Some (jump k') → Goes k' k → Meets L' P q m 2 (does n (enter r k) m)
    unfolding does deed cost branch
    called r k k' e e₁ g = by (perform (push r) m) (step_is L' q _ m e)
      where
        same : (b : Bool) (x : ℕ) → cond b x x ≡ x
        same true x = refl
        same false x = refl

        by : (x : Acted) → step L' q m ≡ branch true (here (suc q)) (here (suc q)) x → Meets L' P q m 2 (branch true (there k) (there k) x)
        by (did b m₁) s = rw (same (agree true b) (there k)) (then_jumps k k' (s ∙ ap (λ (z : ℕ). go z m₁) (same (agree true b) _)) (cost_is L' q _ m e) e₁ g)
        by (stops w) s = s
