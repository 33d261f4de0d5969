-- Stage 1, labels: the records stay where they are and do what they did. And where refusal 6 is absent, what it leaves is fit for the
-- stages that follow.
use mathlib.Core.Path.{◌≡◌, refl, ap, ◌∙◌, subst, fun_ext}
use Prim.Native.Nat.{◌≤◌}
use native.Mathlib.Omega.{arith}
use Rattle.std.specs.Prelude.{◌+◌, ◌&&◌, ◌∷◌}
use Rattle.rules.specs.Words.{ℕ, zero, suc, Bool, true, false, cond, Option, None, Some, List, [], length, drop, slice_get}
use Rattle.rules.specs.Instruction.{Sort, conditional, loop, Op, act, test, jump, label, goto, goto2, header, separator, end, call, return}
use Rattle.rules.specs.Numbers.{at, each, move_to}
use Rattle.rules.specs.Nesting.{bracket}
use Rattle.rules.specs.Skip.{adding, plain_test, skip_from, skip}
use Rattle.rules.specs.Partners.{role_of, role, stop_at, stop_from, end_of, arm_of, opening, is_header, header_up_to, header_of}
use Rattle.rules.specs.Labels.{unlabel, labels}
use Rattle.rules.specs.Step.{deed, Mem, step_at, step}
use Rattle.rules.specs.Run.{start_of}
use Rattle.laws.proofs.Length.{labels_length}
use Rattle.rules.proofs.Computes.{computes}
use Rattle.faithful.proofs.Inner.Simulation.{cost, cost_of, cost_at, Sim, stay, first}
use Rattle.faithful.proofs.Inner.Turns.{rank, Calm, Good}
use Rattle.faithful.proofs.Inner.Stage.{Staged}

module _ (L : List Op) where
  -- What is alike of labels, gotos and jumps is alike of a record and what it becomes.
  unlabel-alike {ℓ} : {A : Type ℓ} (h : Op → A) → ((x s : ℕ) → h (jump x) ≡ h (label s)) → ((x s : ℕ) → h (jump x) ≡ h (goto s))
      → ((x s t : ℕ) → h (jump x) ≡ h (goto2 s t)) → (i : ℕ) (o : Op) → h (unlabel L i o) ≡ h o
  unfolding unlabel
  unlabel-alike h e f g i (act a) = refl
  unlabel-alike h e f g i (test v a) = refl
  unlabel-alike h e f g i (jump k) = refl
  unlabel-alike h e f g i (label s) = e _ s
  unlabel-alike h e f g i (goto s) = f _ s
  unlabel-alike h e f g i (goto2 s t) = g _ s t
  unlabel-alike h e f g i (header b v a) = refl
  unlabel-alike h e f g i separator = refl
  unlabel-alike h e f g i (end b) = refl
  unlabel-alike h e f g i (call k) = refl
  unlabel-alike h e f g i return = refl

  role-alike : (b : Sort) (i : ℕ) (o : Op) → role b (unlabel L i o) ≡ role b o
  unfolding role bracket
  role-alike b i o = ap (role_of b) (unlabel-alike bracket (λ x s. refl) (λ x s. refl) (λ x s t. refl) i o)

  -- What is alike of each record and what it becomes is alike of whatever stands at i.
  at-alike : {A : Type 0} (F G : Option Op → A) (i : ℕ) → F None ≡ G None → ((o : Op) → F (Some (unlabel L i o)) ≡ G (Some o))
      → F (at (labels L) i) ≡ G (at L i)
  unfolding labels at each
  at-alike F G zero e h = e
  at-alike {A} F G (suc j) e h = by 1 L j (λ o. subst (λ (i : ℕ). F (Some (unlabel L i o)) ≡ G (Some o)) (omega arith) (h o))
    where
      by : (p : ℕ) (os : List Op) (j : ℕ) → ((o : Op) → F (Some (unlabel L (j + p) o)) ≡ G (Some o))
          → F (slice_get (each (unlabel L) p os) j) ≡ G (slice_get os j)
      by p [] j h = e
      by p (o ∷ os) zero h = subst (λ (i : ℕ). F (Some (unlabel L i o)) ≡ G (Some o)) (omega arith) (h o)
      by p (o ∷ os) (suc j) h = by (suc p) os j (λ x. subst (λ (i : ℕ). F (Some (unlabel L i x)) ≡ G (Some x)) (omega arith) (h x))

  -- ## Partners stay

  stop-alike : (w : Bool) (b : Sort) (d k p : ℕ) (os : List Op) → stop_from w b d k (each (unlabel L) p os) ≡ stop_from w b d k os
  unfolding stop_from each
  stop-alike w b d k p [] = refl
  stop-alike w b d k p (o ∷ os) = rw (role-alike b p o) (ap (stop_at w (role b o) d k) (fun_ext (λ e. stop-alike w b e (suc k) (suc p) os)))

  drop-each : (i p : ℕ) (os : List Op) → drop i (each (unlabel L) p os) ≡ each (unlabel L) (i + p) (drop i os)
  unfolding each
  drop-each zero p os = ap (λ (q : ℕ). each (unlabel L) q os) (omega arith)
  drop-each (suc i) p [] = refl
  drop-each (suc i) p (o ∷ os) = drop-each i (suc p) os ∙ ap (λ (q : ℕ). each (unlabel L) q (drop i os)) (omega arith)

  stop_of-alike : (w : Bool) (b : Sort) (i : ℕ) → stop_from w b 0 (suc i) (drop i (labels L)) ≡ stop_from w b 0 (suc i) (drop i L)
  unfolding labels
  stop_of-alike w b i = ap (stop_from w b 0 (suc i)) (drop-each i 1 L) ∙ stop-alike w b 0 (suc i) (i + 1) (drop i L)

  end_of-alike : (b : Sort) (i : ℕ) → end_of b (labels L) i ≡ end_of b L i
  unfolding end_of
  end_of-alike b i = stop_of-alike false b i

  arm_of-alike : (i : ℕ) → arm_of (labels L) i ≡ arm_of L i
  unfolding arm_of
  arm_of-alike i = stop_of-alike true conditional i

  header_of-alike : (b : Sort) (i : ℕ) → header_of b (labels L) i ≡ header_of b L i
  unfolding header_of header_up_to is_header
  header_of-alike b i = up i
    where
      up : (n : ℕ) → header_up_to b (labels L) i n ≡ header_up_to b L i n
      up zero = refl
      up (suc n) = rw (at-alike (is_header b) (is_header b) (suc n) refl (λ o. ap opening (role-alike b (suc n) o)), end_of-alike b (suc n), up n)

  -- ## Deeds stay

  deed-alike : (i : ℕ) (o : Op) → deed (labels L) i (unlabel L i o) ≡ deed L i o
  unfolding deed unlabel
  deed-alike i (act a) = refl
  deed-alike i (test v a) = refl
  deed-alike i (jump k) = refl
  deed-alike i (label s) = refl
  deed-alike i (goto s) = refl
  deed-alike i (goto2 s t) = refl
  deed-alike i (header conditional v a) = rw (arm_of-alike i)
  deed-alike i (header loop v a) = rw (end_of-alike loop i)
  deed-alike i separator = rw (end_of-alike conditional i)
  deed-alike i (end conditional) = refl
  deed-alike i (end loop) = rw (header_of-alike loop i)
  deed-alike i (call k) = refl
  deed-alike i return = refl

  module _ (i : ℕ) (m : Mem) where
    step-alike : step (labels L) i m ≡ step L i m
    unfolding step step_at
    step-alike = at-alike (λ (x : Option Op). step_at (labels L) i x m) (λ (x : Option Op). step_at L i x m) i refl (λ o. rw (labels_length L, deed-alike i o))

    cost_alike : cost_at (labels L) i m ≡ cost_at L i m
    unfolding cost_at cost_of cost
    cost_alike = at-alike (λ (x : Option Op). cost_of (length (labels L)) x m) (λ (x : Option Op). cost_of (length L) x m) i refl
        (λ o. rw (labels_length L) (unlabel-alike (λ x. cost (length L) x m) (λ x s. refl) (λ x s. refl) (λ x s t. refl) i o))

  sim : Sim L (labels L) (λ i. i)
  sim = record {
    steps = λ i m j m₁ e. first (step-alike i m ∙ e) (stay refl) (omega (arith, cost_alike i m));
    halts = λ i m w e. step-alike i m ∙ e;
  }

  -- ## Without refusal 6, what is left may stand

  low : (i : ℕ) (o : Op) → rank (unlabel L i o) ≤ 3
  unfolding unlabel
  low i (act a) = omega arith
  low i (test v a) = omega arith
  low i (jump k) = omega arith
  low i (label s) = omega arith
  low i (goto s) = omega arith
  low i (goto2 s t) = omega arith
  low i (header conditional v a) = omega arith
  low i (header loop v a) = omega arith
  low i separator = omega arith
  low i (end conditional) = omega arith
  low i (end loop) = omega arith
  low i (call k) = omega arith
  low i return = omega arith

  adding-alike : (i : ℕ) (o : Op) → adding (unlabel L i o) ≡ adding o
  unfolding computes
  adding-alike = unlabel-alike adding (λ x s. refl) (λ x s. refl) (λ x s t. refl)

  plain_alike : (i : ℕ) (o : Op) → plain_test (unlabel L i o) ≡ plain_test o
  unfolding computes
  plain_alike = unlabel-alike plain_test (λ x s. refl) (λ x s. refl) (λ x s t. refl)

  calm_next : (b : Bool) (p : ℕ) (o : Op) (os : List Op) → b && adding o ≡ false → Calm b (each (unlabel L) p (o ∷ os))
  unfolding each
  calm_next false p o os e = tt
  calm_next true p o os e = adding-alike p o ∙ e

  calm_end : (b : Bool) → Calm b []
  calm_end true = tt
  calm_end false = tt

  good_from : (p : ℕ) (os : List Op) → skip_from (suc p) os ≡ 0 → Good 3 (each (unlabel L) (suc p) os)
  unfolding skip_from each
  good_from p [] e = tt
  good_from p (o ∷ []) e = (low (suc p) o, calm_end (plain_test (unlabel L (suc p) o)), tt)
  good_from p (o ∷ (x ∷ os)) e = by (plain_test o && adding x) refl e (good_from (suc p) (x ∷ os))
    where
      by : (b : Bool) → plain_test o && adding x ≡ b → cond b (suc p) (skip_from (suc (suc p)) (x ∷ os)) ≡ 0
          → (skip_from (suc (suc p)) (x ∷ os) ≡ 0 → Good 3 (each (unlabel L) (suc (suc p)) (x ∷ os))) → Good 3 (each (unlabel L) (suc p) (o ∷ (x ∷ os)))
      by true q e k = absurd (omega arith)
      by false q e k = (low (suc p) o, rw (plain_alike (suc p) o) (calm_next (plain_test o) (suc (suc p)) x os q), k e)

  pub labels-staged : skip L ≡ 0 → Staged 3 L (labels L) (λ i. i)
  unfolding skip labels start_of
  labels-staged e = record { sim = sim; good = good_from 0 L e; starts = ap (λ (n : ℕ). move_to n 1) (labels_length L) }
