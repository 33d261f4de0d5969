-- A run turn by turn: what is left of it, with the steps taken, is the whole.
use mathlib.Core.Path.{◌≡◌, refl, sym, ap, ◌∙◌}
use Prim.Native.Nat.{ℕ, suc, ◌+◌, ◌-◌, ◌≤◌}
use native.Mathlib.Omega.{arith}
use native.Mathlib.Nat.{add-zero, sub-zero}
use native.Mathlib.Numerals.{add-one}
use mathlib.Core.Bool.{true, false}
use mathlib.Core.List.{List}
use lib.ListN.{length}
use borrow.Author.Tests.{ne_eqb}
use Rattle.rules.specs.declared.Stack.{Stack}
use Rattle.rules.specs.declared.Status.{Status}
use Rattle.rules.specs.declared.Status.TheVariants.{Ended, Spent}
use Rattle.rules.specs.declared.Ran.{Ran}
use Rattle.rules.specs.Record.{count}
use Rattle.rules.specs.Numbers.{names, move_to}
use Rattle.rules.specs.Instruction.{ops}
use Rattle.rules.specs.Step.{Mem, go, halt, step}
use Rattle.rules.specs.Run.{Run, stopped, run}
use Rattle.rules.specs.Answers.{Called, ran}
use Rattle.laws.proofs.Runs.{plus, plus_zero, run_zero, run-at_zero, plus_go, plus_halt}
use Rattle.records.specs.Reading.{rec_at}
use Rattle.stack.proofs.Moves.{named, move_named, move_out}
use Rattle.deeds.specs.declared.Deed.{Deed}
use Rattle.deeds.specs.Deeds.{deed_of}
use Rattle.steps.specs.Steps.{mem, done}
use Rattle.machine.specs.Running.{stops, Right}
use Rattle.machine.proofs.Deeds.{landed, stands}

-- Where a run of the file s from position i₀ stands: the locals, and that they come to the whole run.
pub record Going (s replies : List ℕ) (budget i₀ : ℕ) (z : Stack) (log₀ log : List ℕ) (i : ℕ) (t : Stack) (asked steps : ℕ) : Type 0 where
  pub within : steps ≤ budget
  pub first : steps ≡ 0 → i ≡ i₀
  pub same : length log ≡ length log₀
  pub rest : run (ops s) budget (move_to (count s) i₀) (mem z replies 0 log₀)
      ≡ plus steps (run (ops s) (budget - steps) (move_to (count s) i) (mem t replies asked log))

pub begins : (s replies : List ℕ) (budget i : ℕ) (z : Stack) (log : List ℕ) → Going s replies budget i z log log i z 0 0
begins s replies budget i z log = record { within = omega arith; first = λ e. refl; same = refl; rest = sym (plus_zero _ ∙ rw sub-zero) }

-- A run that stops answers this.
pub answered : (r : Run) (steps i : ℕ) (s : Stack) (replies : List ℕ) (asked : ℕ) (log : List ℕ) (w : Status) → r ≡ plus steps (stopped i (mem s replies asked log) w)
    → (a : Ran) → a ≡ stops w i s steps asked → Called (ran r) a log
unfolding ran plus
answered r steps i s replies asked log w e a h = record { answers = h ∙ rw (e, add-zero); logs = rw e }

module _ {s replies : List ℕ} {budget i₀ : ℕ} {z : Stack} {log₀ log : List ℕ} {i : ℕ} {t : Stack} {asked steps : ℕ}
    (g : Going s replies budget i₀ z log₀ log i t asked steps) where
  abbrev here : Mem
  here = mem t replies asked log

  abbrev whole : Run
  whole = run (ops s) budget (move_to (count s) i₀) (mem z replies 0 log₀)

  pub ends : names (count s) i ≡ false → whole ≡ plus steps (stopped 0 here Ended)
  ends e = g.rest ∙ rw (move_out (count s) i e) (ap (plus steps) (run-at_zero (ops s) (budget - steps) here))

  module _ (e : names (count s) i ≡ true) where
    pub spends : steps ≡ budget → whole ≡ plus steps (stopped i here Spent)
    spends q =
        let z : budget - steps ≡ 0 = omega arith in
        let h = named (count s) i e in
        g.rest ∙ rw (move_named (count s) i e, z) (ap (plus steps) (run_zero (ops s) i here ∙ rw (ne_eqb i 0 (λ p. omega arith))))

    module _ (q : ¬ (steps ≡ budget)) (ps : List ℕ)
        (right : (j : ℕ) → names (count s) j ≡ true → (budget ≤ 1 → j ≡ i₀) → Right s ps j)
        (o : Deed) (f : o ≡ deed_of s ps i (i + 1) (rec_at s i).kind) where
      left : budget - steps ≡ suc (budget - suc steps)
      left = omega (arith, g.within, q)

      steps_here : step (ops s) i here ≡ landed (count s) (done (count s) o here)
      steps_here =
          let h = named (count s) i e in
          stands s ps i h.0 h.1 (right i e (λ b. g.first (omega (arith, g.within, q, b)))) o f here

      -- A step that is not taken.
      pub halts : (w : Status) (m' : Mem) → m' ≡ here → done (count s) o here ≡ halt w → whole ≡ plus steps (stopped i m' w)
      unfolding landed
      halts w m' u h =
          g.rest
          ∙ rw (u, move_named (count s) i e, left) (plus_halt (ops s) i here (budget - suc steps) steps w (steps_here ∙ ap (landed (count s)) h))

      -- A step that is taken.
      pub goes : (k : ℕ) (log' : List ℕ) (t' : Stack) (asked' : ℕ) → done (count s) o here ≡ go k (mem t' replies asked' log')
          → length log' ≡ length log → Going s replies budget i₀ z log₀ log' k t' asked' (steps + 1)
      unfolding landed
      goes k log' t' asked' h l = record {
        within = omega (arith, g.within, q);
        first = λ p. absurd (omega arith);
        same = l ∙ g.same;
        rest = g.rest ∙ rw (move_named (count s) i e, add-one steps, left) (plus_go (ops s) i here (budget - suc steps) steps (move_to (count s) k) (mem t' replies asked' log') (steps_here ∙ ap (landed (count s)) h));
      }
