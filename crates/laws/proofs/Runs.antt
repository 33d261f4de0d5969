-- Runs with the steps as an accumulator.
--     plus, plus_zero, plus_one, plus_plus     a run with k steps more
--     run_zero, run-at_zero     without budget; at position 0, which is ended with any budget
--     run-go, run-halt, plus_go, plus_halt     with budget: the step is taken, or it stops
--     run-steps     no more steps than the budget
--     run_more, run_left     a run whose budget was not spent answers the same with a larger one
use mathlib.Core.Path.{◌≡◌, refl, ap, ◌∙◌}
use Prim.Native.Nat.{ℕ, zero, suc, ◌+◌, ◌≤◌, ◌<◌}
use native.Mathlib.Nat.{zero-add, add-suc, suc-add, add_assoc}
use native.Mathlib.Omega.{arith}
use mathlib.Core.Bool.{Bool, true, false, cond}
use mathlib.Core.List.{List}
use lib.Dec.{eqb}
use borrow.Author.Tests.{eqb-true}
use Rattle.rules.specs.declared.Status.{Status}
use Rattle.rules.specs.declared.Status.TheVariants.{Ended, Spent}
use Rattle.rules.specs.Instruction.{Op}
use Rattle.rules.specs.Numbers.{at}
use Rattle.rules.specs.Step.{Mem, Out, go, halt, step_at, step}
use Rattle.rules.specs.Run.{Run, stopped, one_more, onward, run}

unfoldable pub plus : ℕ → Run → Run
plus k r = record { position = r.position; mem = r.mem; steps = k + r.steps; status = r.status }

pub plus_zero : (r : Run) → plus 0 r ≡ r
unfolding plus
plus_zero r = rw zero-add

pub plus_one : (k : ℕ) (r : Run) → plus k (one_more r) ≡ plus (suc k) r
unfolding plus
plus_one k r = rw (add-suc, suc-add)

pub plus_plus : (k l : ℕ) (r : Run) → plus k (plus l r) ≡ plus (k + l) r
unfolding plus
plus_plus k l r = rw add_assoc

module _ (L : List Op) (i : ℕ) (m : Mem) where
  pub run_zero : run L 0 i m ≡ stopped i m (cond (eqb i 0) Ended Spent)
  unfolding run
  run_zero = refl

  module _ (b : ℕ) where
    pub run-go : (j : ℕ) (m' : Mem) → step L i m ≡ go j m' → run L (suc b) i m ≡ one_more (run L b j m')
    unfolding run onward
    run-go j m' e = rw e

    pub run-halt : (w : Status) → step L i m ≡ halt w → run L (suc b) i m ≡ stopped i m w
    unfolding run onward
    run-halt w e = rw e

    pub plus_go : (k j : ℕ) (m' : Mem) → step L i m ≡ go j m' → plus k (run L (suc b) i m) ≡ plus (suc k) (run L b j m')
    plus_go k j m' e = ap (plus k) (run-go j m' e) ∙ plus_one k (run L b j m')

    pub plus_halt : (k : ℕ) (w : Status) → step L i m ≡ halt w → plus k (run L (suc b) i m) ≡ plus k (stopped i m w)
    plus_halt k w e = ap (plus k) (run-halt w e)

module _ (L : List Op) where
  pub run-at_zero : (b : ℕ) (m : Mem) → run L b 0 m ≡ stopped 0 m Ended
  unfolding run onward step step_at at
  run-at_zero zero m = refl
  run-at_zero (suc b) m = refl

  pub run-steps : (b i : ℕ) (m : Mem) → (run L b i m).steps ≤ b
  unfolding run onward
  run-steps zero i m = omega arith
  run-steps (suc b) i m = by (step L i m) (λ j m'. run-steps b j m')
    where
      by : (o : Out) → ((j : ℕ) (m' : Mem) → (run L b j m').steps ≤ b) → (onward i m (λ j m'. run L b j m') o).steps ≤ suc b
      by (go j m') h = omega (arith, h j m')
      by (halt w) h = omega arith

  pub run_more : (b c i : ℕ) (m : Mem) → b ≤ c → ¬ ((run L b i m).status ≡ Spent) → run L c i m ≡ run L b i m
  unfolding run onward
  run_more zero c i m l h = by (eqb i 0) refl
    where
      by : (t : Bool) → eqb i 0 ≡ t → run L c i m ≡ run L 0 i m
      by true e = rw (eqb-true i 0 e) (run-at_zero c m)
      by false e = absurd (h (ap (λ (t : Bool). cond t Ended Spent) e))
  run_more (suc b) zero i m l h = absurd (omega arith)
  run_more (suc b) (suc c) i m l h = by (step L i m) h (λ j m'. run_more b c j m' (omega arith))
    where
      by : (o : Out) → ¬ ((onward i m (λ j m'. run L b j m') o).status ≡ Spent) → ((j : ℕ) (m' : Mem) → ¬ ((run L b j m').status ≡ Spent) → run L c j m' ≡ run L b j m')
          → onward i m (λ j m'. run L c j m') o ≡ onward i m (λ j m'. run L b j m') o
      by (go j m') h g = ap one_more (g j m' h)
      by (halt w) h g = refl

  pub run_left : (b c i : ℕ) (m : Mem) → b ≤ c → (run L b i m).steps < b → run L c i m ≡ run L b i m
  unfolding run onward
  run_left zero c i m l h = absurd (omega arith)
  run_left (suc b) zero i m l h = absurd (omega arith)
  run_left (suc b) (suc c) i m l h = by (step L i m) h (λ j m'. run_left b c j m' (omega arith))
    where
      by : (o : Out) → (onward i m (λ j m'. run L b j m') o).steps < suc b → ((j : ℕ) (m' : Mem) → (run L b j m').steps < b → run L c j m' ≡ run L b j m')
          → onward i m (λ j m'. run L c j m') o ≡ onward i m (λ j m'. run L b j m') o
      by (go j m') h g = ap one_more (g j m' (omega arith))
      by (halt w) h g = refl
