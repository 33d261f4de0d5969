-- The auditor's sentence: the routine the desk approved is the routine that ran. It speaks of files and of what the public calls answer
-- and write, and of nothing else.
use Rattle.std.specs.Prelude.{◌≡◌, ℕ, ◌+◌, ◌*◌, ◌≤◌, ◌<◌, List, take, Ok, Err}
use Rattle.rules.specs.declared.Notation.TheVariants.{Base}
use Rattle.rules.specs.declared.Refusal.{Refusal}
use Rattle.rules.specs.declared.Status.{Status}
use Rattle.rules.specs.declared.Status.TheVariants.{Spent}
use Rattle.rules.specs.Record.{count}
use Rattle.rules.specs.Answers.{Converted, check_records, Call, run_routine, run_base}

-- Two calls that stopped alike: the same status, replies used, actions logged, counter stack, and the same bytes in the log.
pub record Alike (one other : Call) : Type 0 where
  pub outcome : one.answer.outcome ≡ other.answer.outcome
  pub replies : one.answer.replies ≡ other.answer.replies
  pub actions : one.answer.actions ≡ other.answer.actions
  pub stack : one.answer.state.stack ≡ other.answer.state.stack
  pub log : one.log ≡ other.log

-- A run of the routine s that stopped with status w, and runs of the base b on the same replies and log: there is a count, from the
-- routine's steps to (2n+1) times as many, such that the base stops alike. A routine that stopped with status 1 to 4 is followed by the
-- base under every budget above the count; one whose budget was spent, by the base under the count itself.
pub record Followed (s b replies log : List ℕ) (budget : ℕ) (w : Status) : Type 0 where
  pub steps : ℕ
  pub at_least : (run_routine s replies log budget).answer.steps ≤ steps
  pub at_most : steps ≤ (2 * count s + 1) * (run_routine s replies log budget).answer.steps
  pub stops : ¬ (w ≡ Spent) → (larger : ℕ) → steps < larger → Alike (run_base b replies log larger) (run_routine s replies log budget)
  pub goes_on : w ≡ Spent → Alike (run_base b replies log steps) (run_routine s replies log budget)

-- If `convert` accepts the routine's bytes s and leaves out' in its output, then the base is the first 8 bytes per record of out'. It is
-- accepted by `run_base`, and for all replies, every log and every budget the two runs are turned away alike or the base follows.
pub record Audited (s b : List ℕ) (m : ℕ) : Type 0 where
  pub accepted : check_records Base b ≡ Ok m
  pub refused : (replies log : List ℕ) (budget other : ℕ) (r : Refusal) → (run_routine s replies log budget).answer.outcome ≡ Err r → run_base b replies log other ≡ run_routine s replies log budget
  pub follows : (replies log : List ℕ) (budget : ℕ) (w : Status) → (run_routine s replies log budget).answer.outcome ≡ Ok w → Followed s b replies log budget w

abbrev pub Audit : Type 0
Audit = (s out work out' work' : List ℕ) (m : ℕ) → Converted s out work (Ok m) out' work' → Audited s (take (8 * m) out') m
