-- Runs: the iterated step, with a budget.
use Rattle.rules.specs.Words.{ℕ, zero, suc, cond, List, length, eqb}
use Rattle.std.specs.Prelude.{Result}
use Rattle.rules.specs.declared.Refusal.{Refusal}
use Rattle.rules.specs.declared.Status.{Status}
use Rattle.rules.specs.declared.Status.TheVariants.{Ended, NoReply, LogFull, StackFull, Spent}
use Rattle.rules.specs.Instruction.{Op}
use Rattle.rules.specs.Numbers.{move_to}
use Rattle.rules.specs.Stack.{fresh}
use Rattle.rules.specs.Step.{Mem, Out, go, halt, step}

-- The statuses' numbers.
unfoldable pub status_number : Status → ℕ
status_number Ended = 1
status_number NoReply = 2
status_number LogFull = 3
status_number StackFull = 4
status_number Spent = 5

-- How a run or a step came out: why it stopped, or why it is turned away.
abbrev pub Outcome : Type 0
Outcome = Result Status Refusal

-- Where a run stands, what is then there, the steps taken and the status.
pub record Run : Type 0 where
  pub position : ℕ
  pub mem : Mem
  pub steps : ℕ
  pub status : Status

abbrev pub stopped : ℕ → Mem → Status → Run
stopped i m w = record { position = i; mem = m; steps = 0; status = w }

abbrev pub one_more : Run → Run
one_more r = record { position = r.position; mem = r.mem; steps = suc r.steps; status = r.status }

-- A step that is taken counts, and the run goes on from there; statuses 2, 3 and 4 stop before the step, which is not counted.
unfoldable pub onward : ℕ → Mem → (ℕ → Mem → Run) → Out → Run
onward i m rest (go j m') = one_more (rest j m')
onward i m rest (halt w) = stopped i m w

-- Statuses are tried in the order 1, 5, 2, 3, 4: without budget it is 1 at position 0, else 5; with budget the step says which.
unfoldable pub run : List Op → ℕ → ℕ → Mem → Run
run L zero i m = stopped i m (cond (eqb i 0) Ended Spent)
run L (suc budget) i m = onward i m (λ j m'. run L budget j m') (step L i m)

-- The start is position 1, or 0 if n = 0, with a fresh stack, no reply used and nothing logged.
unfoldable pub start_of : List Op → ℕ
start_of L = move_to (length L) 1

unfoldable pub fresh_mem : List ℕ → List ℕ → Mem
fresh_mem replies log = record { stack = fresh; replies = replies; used = 0; log = log; logged = 0 }

unfoldable pub runs : List Op → List ℕ → List ℕ → ℕ → Run
runs L replies log budget = run L budget (start_of L) (fresh_mem replies log)
