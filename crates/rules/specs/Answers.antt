-- What every public call answers, and what each lent buffer then holds, on every input.
use Rattle.std.specs.Prelude.{◌≡◌, ◌*◌, ◌&&◌, ◌||◌, ◌∷◌, ◌++◌, Ok, Err}
use Rattle.rules.specs.Words.{ℕ, zero, suc, Bool, true, not, cond, Option, None, Some, List, [], map, length, drop, replicate, eqb, leb, ltb}
use Rattle.rules.specs.declared.Refusal.{Refusal}
use Rattle.rules.specs.declared.Refusal.TheVariants.{Nesting, Label, Skip, Growth, Room, Reply, Far}
use Rattle.rules.specs.declared.Refusal.TheVariants as refusal
use Rattle.rules.specs.Refusals.{Verdict, when, when_at, first, verdict}
use Rattle.rules.specs.declared.State.{State}
use Rattle.rules.specs.declared.Ran.{Ran}
use Rattle.rules.specs.Record.{Rec, bytes_of, count, records}
use Rattle.rules.specs.declared.Notation.{Notation}
use Rattle.rules.specs.declared.Notation.TheVariants.{Routine, Base, Relative}
use Rattle.rules.specs.Instruction.{encode, ops}
use Rattle.rules.specs.Checks.{record_checks}
use Rattle.rules.specs.Nesting.{nesting}
use Rattle.rules.specs.Labels.{lost_goto}
use Rattle.rules.specs.Skip.{skip, converted_length, grown}
use Rattle.rules.specs.Convert.{convert}
use Rattle.rules.specs.Relative.{far}
use Rattle.rules.specs.Stack.{fresh}
use Rattle.rules.specs.Step.{Mem}
use Rattle.rules.specs.Run.{Run, run, runs}

-- ## The checks of each call, in the paper's order: 1, 2, then 3 or 4, then 5, 14, 6, 7, 11, 8, 9, 10, each where the call has that matter

unfoldable pub routine_checks : List ℕ → List (Option Refusal)
routine_checks s = record_checks Routine s ++ (when_at Nesting (nesting (ops s)) ∷ when_at Label (lost_goto (ops s)) ∷ when_at Skip (skip (ops s)) ∷ when (grown (ops s)) Growth ∷ [])

-- 8 room: a buffer under 8 bytes per record written.
unfoldable pub short : ℕ → List ℕ → Bool
short n buffer = ltb (length buffer) (8 * n)

-- 9 reply: the first reply byte that is not 0 or 1, from number i on: 0 if there is none.
unfoldable pub bad_reply_from : ℕ → List ℕ → ℕ
bad_reply_from i [] = 0
bad_reply_from i (r ∷ rs) = let later = bad_reply_from (suc i) rs in cond (leb r 1) later i

unfoldable pub bad_reply : List ℕ → ℕ
bad_reply replies = bad_reply_from 1 replies

-- 10 state: sound is a position 0..n and a depth 0..96, entries in use 0..9,999 and unused ones zero.
unfoldable pub entries_sound : ℕ → List ℕ → Bool
entries_sound d [] = true
entries_sound zero (e ∷ es) = eqb e 0 && entries_sound zero es
entries_sound (suc d) (e ∷ es) = leb e 9999 && entries_sound d es

unfoldable pub sound : ℕ → State → Bool
sound n m = leb m.at n && leb m.stack.depth 96 && entries_sound m.stack.depth m.stack.entries

-- ## Checking

unfoldable pub check_records : Notation → List ℕ → Verdict
check_records nt s = verdict (record_checks nt s) (count s)

unfoldable pub check_routine : List ℕ → Verdict
check_routine s = verdict (routine_checks s) (count s)

-- ## Converting and translating

-- A refused call writes to no lent buffer. One that succeeds fills the first 8 bytes per record of the output and keeps the rest ..
unfoldable pub filled : Verdict → List Rec → List ℕ → List ℕ
filled (Ok n) rs out = bytes_of rs ++ drop (8 * n) out
filled (Err r) rs out = out

-- .. and a conversion leaves the working buffer all zero.
unfoldable pub cleared : Verdict → List ℕ → List ℕ
cleared (Ok n) work = replicate (length work) 0
cleared (Err r) work = work

-- The records of the base, and how many they are.
unfoldable pub base_records : List ℕ → List Rec
base_records s = map encode (convert (ops s))

unfoldable pub base_count : List ℕ → ℕ
base_count s = converted_length (ops s)

-- convert(s, out, work)
unfoldable pub converting : List ℕ → List ℕ → List ℕ → Verdict
converting s out work = verdict (routine_checks s ++ (when (short (base_count s) out || short (base_count s) work) Room ∷ [])) (base_count s)

pub record Converted (s out work : List ℕ) (answer : Verdict) (out' work' : List ℕ) : Type 0 where
  pub answers : answer ≡ converting s out work
  pub output : out' ≡ filled (converting s out work) (base_records s) out
  pub working : work' ≡ cleared (converting s out work) work

-- to_relative(s, out) and to_absolute(s, out)
unfoldable pub relating : List ℕ → List ℕ → Verdict
relating s out = verdict (record_checks Base s ++ (when (short (count s) out) Room ∷ [])) (count s)

unfoldable pub absoluting : List ℕ → List ℕ → Verdict
absoluting s out = verdict (record_checks Relative s ++ (when_at Far (far (records s)) ∷ when (short (count s) out) Room ∷ [])) (count s)

-- The verdict v on a translation that writes rs.
pub record Translated (v : Verdict) (rs : List Rec) (out : List ℕ) (answer : Verdict) (out' : List ℕ) : Type 0 where
  pub answers : answer ≡ v
  pub output : out' ≡ filled v rs out

-- ## Running and stepping

-- What a run or a step answers, and what the log then holds.
pub record Call : Type 0 where
  pub answer : Ran
  pub log : List ℕ

-- A run answers state, steps taken, replies used, actions logged and status. Only the used part of the log is written.
unfoldable pub ran : Run → Call
ran r = record {
  answer = record {
    outcome = Ok r.status;
    state = record { at = r.position; stack = r.mem.stack };
    steps = r.steps;
    replies = r.mem.used;
    actions = r.mem.logged;
  };
  log = r.mem.log;
}

-- A refused call hands back the state m with nothing taken, used or logged, and leaves the log as it was.
unfoldable pub turned_away : Refusal → State → List ℕ → Call
turned_away r m log = record { answer = record { outcome = Err r; state = m; steps = 0; replies = 0; actions = 0 }; log = log }

unfoldable pub unless : Option Refusal → State → List ℕ → Call → Call
unless None m log c = c
unless (Some r) m log c = turned_away r m log

-- A refused run hands back a fresh state that has ended.
unfoldable pub no_state : State
no_state = record { at = 0; stack = fresh }

-- run_routine(s, replies, log, budget) and run_base: the call's own checks, then 9.
unfoldable pub running : List (Option Refusal) → List ℕ → List ℕ → List ℕ → ℕ → Call
running checks s replies log budget =
    unless (first (checks ++ (when_at Reply (bad_reply replies) ∷ []))) no_state log (ran (runs (ops s) replies log budget))

unfoldable pub run_routine : List ℕ → List ℕ → List ℕ → ℕ → Call
run_routine s replies log budget = running (routine_checks s) s replies log budget

unfoldable pub run_base : List ℕ → List ℕ → List ℕ → ℕ → Call
run_base s replies log budget = running (record_checks Base s) s replies log budget

-- step_routine(s, replies, log, state) and step_base: the same with budget 1, from a given state; also 10. A refused step hands back
-- the state it was given.
unfoldable pub mem_at : State → List ℕ → List ℕ → Mem
mem_at m replies log = record { stack = m.stack; replies = replies; used = 0; log = log; logged = 0 }

unfoldable pub stepping : List (Option Refusal) → List ℕ → List ℕ → List ℕ → State → Call
stepping checks s replies log m =
    unless (first (checks ++ (when_at Reply (bad_reply replies) ∷ when (not (sound (count s) m)) refusal.State ∷ []))) m log
    (ran (run (ops s) 1 m.at (mem_at m replies log)))

unfoldable pub step_routine : List ℕ → List ℕ → List ℕ → State → Call
step_routine s replies log m = stepping (routine_checks s) s replies log m

unfoldable pub step_base : List ℕ → List ℕ → List ℕ → State → Call
step_base s replies log m = stepping (record_checks Base s) s replies log m

-- The contract of all four: the answer, and the log at exit.
pub record Called (c : Call) (answer : Ran) (log' : List ℕ) : Type 0 where
  pub answers : answer ≡ c.answer
  pub logs : log' ≡ c.log
