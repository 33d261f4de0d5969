-- Rows of our own beside the paper's table: what the paper says in words and its table does not try, what to write instead of a routine
-- that is refused 6, and the incident.
use mathlib.Core.Path.{◌≡◌}
use Rattle.std.specs.Prelude.{◌∷◌, Ok, Err}
use Rattle.rules.specs.Words.{ℕ, true, false, List, [], map, replicate}
use Rattle.rules.specs.declared.Refusal.TheVariants.{Ragged, Long, Kind, Field, Nesting, Skip, Growth, Room, Reply, Far, Label}
use Rattle.rules.specs.declared.Refusal.TheVariants as refusal
use Rattle.rules.specs.declared.Status.TheVariants.{Ended, NoReply, LogFull, StackFull, Spent}
use Rattle.rules.specs.Run.{Outcome, status_number, runs}
use Rattle.rules.specs.declared.State.{State}
use Rattle.rules.specs.declared.Notation.TheVariants.{Base}
use Rattle.rules.specs.Record.{rec, bytes_of}
use Rattle.rules.specs.Instruction.{push, pop, compare, outside, conditional, loop, Op, act, test, jump, label, goto, goto2, header, separator, end, call, return, file}
use Rattle.rules.specs.Refusals.{Told, told}
use Rattle.rules.specs.Nesting.{nesting}
use Rattle.rules.specs.Partners.{end_of, arm_of}
use Rattle.rules.specs.Calls.{calls}
use Rattle.rules.specs.Convert.{convert}
use Rattle.rules.specs.Relative.{to_relative, to_absolute}
use Rattle.rules.specs.Stack.{stack, fresh}
use Rattle.rules.specs.Answers.{Call, check_records, check_routine, base_count, converting, absoluting, no_state, run_routine, run_base, step_routine, step_base}
use Rattle.rules.proofs.Cases.{a, +a, -a, +a⟨}

-- ## Checks

-- A refusal by the paper's number and place.
abbrev number : ℕ → ℕ → Told
number n p = record { number = n; place = p }

unfoldable pub Checking : Type 0
Checking =
    -- Eight bytes a record, low byte first.
    (file (-a 300 ∷ goto2 5 999 ∷ []) ≡ 3 ∷ 0 ∷ 44 ∷ 1 ∷ 0 ∷ 0 ∷ 0 ∷ 0 ∷ 7 ∷ 0 ∷ 5 ∷ 0 ∷ 231 ∷ 3 ∷ 0 ∷ 0 ∷ [])
    -- The numbers 1 to 11, and 14, each with its place.
    × (map told (Ragged ∷ Long ∷ Kind 9 ∷ Field 9 ∷ Nesting 9 ∷ Skip 9 ∷ Growth ∷ Room ∷ Reply 9 ∷ refusal.State ∷ Far 9 ∷ Label 9 ∷ []) ≡ number 1 0 ∷ number 2 0 ∷ number 3 9 ∷ number 4 9 ∷ number 5 9 ∷ number 6 9 ∷ number 7 0 ∷ number 8 0 ∷ number 9 9 ∷ number 10 0 ∷ number 11 9 ∷ number 14 9 ∷ [])
    -- Order: the lowest record with fault 3 or 4, 3 first within it.
    × (check_routine (1 ∷ []) ≡ Err Ragged)
    × (check_routine (bytes_of (rec 1 1000 0 ∷ rec 17 0 0 ∷ [])) ≡ Err (Field 1))
    × (check_routine (bytes_of (rec 11 0 0 ∷ rec 17 1 0 ∷ [])) ≡ Err (Kind 2))
    × (check_records Base (bytes_of (rec 1 1001 9999 ∷ rec 2 1002 0 ∷ rec 3 1003 7 ∷ rec 1 1002 1 ∷ [])) ≡ Err (Field 4))
    -- The lowest opener never closed; a second separator doesn't fit.
    × (check_routine (file (a 1 ∷ +a⟨ 1 ∷ +a⟨ 2 ∷ end conditional ∷ header loop true (outside 3) ∷ [])) ≡ Err (Nesting 2))
    × (check_routine (file (+a⟨ 1 ∷ separator ∷ separator ∷ end conditional ∷ [])) ≡ Err (Nesting 3))
    -- 14: a goto to nowhere, the lowest; the second label is looked for strictly behind the first. 5 comes before it, 6 after it.
    × (check_routine (file (goto 7 ∷ [])) ≡ Err (Label 1))
    × (check_routine (file (goto2 5 5 ∷ label 5 ∷ label 5 ∷ [])) ≡ Ok 3)
    × (check_routine (file (goto2 5 7 ∷ label 7 ∷ label 5 ∷ [])) ≡ Err (Label 1))
    × (check_routine (file (label 1 ∷ goto 1 ∷ goto2 1 8 ∷ goto 7 ∷ [])) ≡ Err (Label 3))
    × (check_routine (file (goto 7 ∷ end conditional ∷ [])) ≡ Err (Nesting 2))
    × (check_routine (file (+a 1 ∷ call 1 ∷ goto 7 ∷ [])) ≡ Err (Label 3))
    × (converting (file (goto 7 ∷ [])) (replicate 8 0) (replicate 8 0) ≡ Err (Label 1))
    × ((run_routine (file (goto 7 ∷ [])) [] [] 9).answer.outcome ≡ Err (Label 1))
    × ((step_routine (file (goto 7 ∷ [])) [] [] no_state).answer.outcome ≡ Err (Label 1))
    -- 8 is also about the working buffer, and comes after 11.
    × (converting (file (call 1 ∷ [])) (file (a 1 ∷ a 1 ∷ [])) (file (a 1 ∷ [])) ≡ Err Room)
    × (absoluting (bytes_of (rec 17 9999 0 ∷ [])) [] ≡ Err (Far 1))
    -- 9 comes after the routine's own checks and the base's 1 to 4: a routine with fault 6, a base with fault 4, both with a bad reply.
    × ((run_routine (file (+a 1 ∷ call 1 ∷ [])) (2 ∷ []) [] 9).answer.outcome ≡ Err (Skip 1))
    × ((run_base (bytes_of (rec 1 1000 0 ∷ [])) (2 ∷ []) [] 9).answer.outcome ≡ Err (Field 1))
    -- A refused run writes nothing and has ended.
    × (run_routine (file (a 1 ∷ [])) (1 ∷ 2 ∷ []) (7 ∷ 7 ∷ []) 9 ≡ record { answer = record { outcome = Err (Reply 2); state = no_state; steps = 0; replies = 0; actions = 0 }; log = 7 ∷ 7 ∷ [] })

-- ## Stages

-- `##R` and 299 actions after stage 2: the chain nests 300 deep.
abbrev deep : List Op
deep = calls (return ∷ replicate 299 (a 1))

-- `+a1{; a2; }; a3`
abbrev one_armed_routine : List Op
one_armed_routine = +a⟨ 1 ∷ a 2 ∷ end conditional ∷ a 3 ∷ []

unfoldable pub Lowering : Type 0
Lowering =
    -- A conditional without separator goes on behind its end, after a no and after its arm: alone, one inside another, and at the end.
    (convert one_armed_routine ≡ -a 1 ∷ jump 5 ∷ a 2 ∷ jump 5 ∷ a 3 ∷ [])
    × (base_count (file one_armed_routine) ≡ 5)
    × (convert (+a⟨ 1 ∷ +a⟨ 2 ∷ a 3 ∷ end conditional ∷ end conditional ∷ a 4 ∷ []) ≡ -a 1 ∷ jump 8 ∷ -a 2 ∷ jump 7 ∷ a 3 ∷ jump 7 ∷ jump 8 ∷ a 4 ∷ [])
    × (convert (+a⟨ 1 ∷ a 2 ∷ end conditional ∷ []) ≡ -a 1 ∷ jump 0 ∷ a 2 ∷ jump 0 ∷ [])
    -- A return that is not the last record has the chain for n.
    × (convert (return ∷ a 1 ∷ []) ≡ test false (compare 2) ∷ jump 6 ∷ act pop ∷ jump 14 ∷ jump 14 ∷ test false (compare 1) ∷ jump 11 ∷ act pop ∷ jump 1 ∷ jump 13 ∷ jump 0 ∷ jump 13 ∷ jump 14 ∷ a 1 ∷ [])
    -- Pushed numbers stay source numbers, though the records they name stand further on.
    × (convert (call 3 ∷ call 3 ∷ a 1 ∷ []) ≡ act (push 2) ∷ jump 5 ∷ act (push 3) ∷ jump 5 ∷ a 1 ∷ [])
    -- Pairs are found however deep they nest.
    × (nesting deep ≡ 0)
    × (arm_of deep 1 ≡ 4)
    × (end_of conditional deep 1 ≡ 1501)
    -- ##3; a1; +a2 becomes forward 2, a1, +a2; ##k at k is forward 0, below it backward; ##0 is stop.
    × (to_relative (rec 4 3 0 ∷ rec 1 1 0 ∷ rec 2 2 0 ∷ []) ≡ rec 17 2 0 ∷ rec 1 1 0 ∷ rec 2 2 0 ∷ [])
    × (to_relative (rec 4 0 0 ∷ rec 4 2 0 ∷ rec 4 1 0 ∷ []) ≡ rec 19 0 0 ∷ rec 17 0 0 ∷ rec 18 2 0 ∷ [])
    -- Back: backward k at i becomes ##0 where k = i or k > i, else ##(i-k); stop becomes ##0; forward k becomes ##(k+i).
    × (to_absolute (rec 18 1 0 ∷ rec 18 9 0 ∷ rec 18 1 0 ∷ rec 19 0 0 ∷ rec 17 2 0 ∷ []) ≡ rec 4 0 0 ∷ rec 4 0 0 ∷ rec 4 2 0 ∷ rec 4 0 0 ∷ rec 4 7 0 ∷ [])
    -- Forward 9,998 reaches 9,999 at place 1, and at place 2 is refused 11.
    × (absoluting (bytes_of (rec 17 9998 0 ∷ [])) (replicate 8 0) ≡ Ok 1)
    × (absoluting (bytes_of (rec 17 9998 0 ∷ rec 17 9998 0 ∷ [])) (replicate 16 0) ≡ Err (Far 2))

-- ## Runs and single steps

-- What is logged on these replies, in a log for five actions.
abbrev log : List Op → List ℕ → List ℕ
log L replies = (runs L replies (replicate 10 0) 99).mem.log

-- Ended after so many steps, with k replies used and actions logged.
abbrev ended_after : ℕ → ℕ → List ℕ → Call
ended_after n k log = record { answer = record { outcome = Ok Ended; state = no_state; steps = n; replies = k; actions = k }; log = log }

unfoldable pub Running : Type 0
Running =
    -- A conditional without separator goes on behind its end, in routine and base alike: on no, and on yes after its arm.
    (run_routine (file one_armed_routine) (0 ∷ 1 ∷ []) (replicate 6 7) 9 ≡ ended_after 2 2 (1 ∷ 0 ∷ 3 ∷ 0 ∷ 7 ∷ 7 ∷ []))
    × (run_base (file (convert one_armed_routine)) (0 ∷ 1 ∷ []) (replicate 6 7) 9 ≡ ended_after 3 2 (1 ∷ 0 ∷ 3 ∷ 0 ∷ 7 ∷ 7 ∷ []))
    × (run_routine (file one_armed_routine) (1 ∷ 1 ∷ 1 ∷ []) (replicate 6 7) 9 ≡ ended_after 4 3 (1 ∷ 0 ∷ 2 ∷ 0 ∷ 3 ∷ 0 ∷ []))
    × (run_base (file (convert one_armed_routine)) (1 ∷ 1 ∷ 1 ∷ []) (replicate 6 7) 9 ≡ ended_after 4 3 (1 ∷ 0 ∷ 2 ∷ 0 ∷ 3 ∷ 0 ∷ []))
    × ((runs (+a⟨ 1 ∷ a 2 ∷ end conditional ∷ []) (0 ∷ []) (0 ∷ 0 ∷ []) 9).steps ≡ 1)
    -- A return that finds n+1 on top ends without a pop, and so does its chain.
    × ((runs (jump 3 ∷ return ∷ call 2 ∷ []) [] [] 9).mem.stack.depth ≡ 1)
    × ((runs (convert (jump 3 ∷ return ∷ call 2 ∷ [])) [] [] 99).mem.stack.depth ≡ 1)
    -- Pop replies no on empty, else yes; compare replies no on empty, whatever y, and keeps what it finds.
    × (log (test true pop ∷ a 1 ∷ a 2 ∷ []) (1 ∷ 1 ∷ []) ≡ 2 ∷ 0 ∷ replicate 8 0)
    × (log (act (push 7) ∷ test true pop ∷ a 1 ∷ []) (1 ∷ []) ≡ 1 ∷ 0 ∷ replicate 8 0)
    × (log (test true (compare 0) ∷ a 1 ∷ a 2 ∷ []) (1 ∷ 1 ∷ []) ≡ 2 ∷ 0 ∷ replicate 8 0)
    × (log (act (push 7) ∷ test true (compare 7) ∷ test true (compare 7) ∷ a 1 ∷ []) (1 ∷ []) ≡ 1 ∷ 0 ∷ replicate 8 0)
    -- The statuses' numbers, and the order in which they are tried: 1, 5, 2, 3, 4.
    × (map status_number (Ended ∷ NoReply ∷ LogFull ∷ StackFull ∷ Spent ∷ []) ≡ 1 ∷ 2 ∷ 3 ∷ 4 ∷ 5 ∷ [])
    × (map status_number ((runs [] [] [] 0).status ∷ (runs (a 1 ∷ []) [] [] 0).status ∷ (runs (a 1 ∷ []) [] [] 1).status ∷ (runs (a 1 ∷ []) (1 ∷ []) (0 ∷ []) 1).status ∷ []) ≡ 1 ∷ 5 ∷ 2 ∷ 3 ∷ [])

-- A state, and what a step hands back: the outcome, the state, and the steps, replies and actions, which are all k.
abbrev standing : ℕ → List ℕ → ℕ → State
standing i entries depth = record { at = i; stack = stack entries depth }

abbrev start : ℕ → State
start i = record { at = i; stack = fresh }

abbrev hands_back : Outcome → State → ℕ → List ℕ → Call
hands_back o m k log = record { answer = record { outcome = o; state = m; steps = k; replies = k; actions = k }; log = log }

-- `a1; R##1`, stepped with the reply yes and a log of two bytes.
abbrev stepped : State → Call
stepped m = step_routine (file (a 1 ∷ call 1 ∷ [])) (1 ∷ []) (7 ∷ 7 ∷ []) m

unfoldable pub Stepping : Type 0
Stepping =
    -- A step that is taken: budget 1 is spent. One that ends. None from position 0.
    (stepped (start 1) ≡ hands_back (Ok Spent) (start 2) 1 (1 ∷ 0 ∷ []))
    × (step_base (file (a 1 ∷ [])) (0 ∷ []) (7 ∷ 7 ∷ []) (start 1) ≡ hands_back (Ok Ended) (start 0) 1 (1 ∷ 0 ∷ []))
    × (stepped (start 0) ≡ hands_back (Ok Ended) (start 0) 0 (7 ∷ 7 ∷ []))
    -- Stopped before the step: no reply left, log full, stack full.
    × (step_base (file (a 1 ∷ [])) [] (7 ∷ 7 ∷ []) (start 1) ≡ hands_back (Ok NoReply) (start 1) 0 (7 ∷ 7 ∷ []))
    × (step_base (file (a 1 ∷ [])) (1 ∷ []) (7 ∷ []) (start 1) ≡ hands_back (Ok LogFull) (start 1) 0 (7 ∷ []))
    × (stepped (standing 2 (replicate 96 1) 96) ≡ hands_back (Ok StackFull) (standing 2 (replicate 96 1) 96) 0 (7 ∷ 7 ∷ []))
    -- Refused 10, and the state handed back: a position above n, a depth above 96, an entry in use above 9,999, an unused one not zero.
    × (stepped (start 3) ≡ hands_back (Err refusal.State) (start 3) 0 (7 ∷ 7 ∷ []))
    × (stepped (standing 1 (replicate 96 0) 97) ≡ hands_back (Err refusal.State) (standing 1 (replicate 96 0) 97) 0 (7 ∷ 7 ∷ []))
    × (stepped (standing 1 (10000 ∷ replicate 95 0) 1) ≡ hands_back (Err refusal.State) (standing 1 (10000 ∷ replicate 95 0) 1) 0 (7 ∷ 7 ∷ []))
    × (stepped (standing 1 (9999 ∷ 1 ∷ replicate 94 0) 1) ≡ hands_back (Err refusal.State) (standing 1 (9999 ∷ 1 ∷ replicate 94 0) 1) 0 (7 ∷ 7 ∷ []))
    × (stepped (standing 1 (9999 ∷ replicate 95 0) 1) ≡ hands_back (Ok Spent) (standing 2 (9999 ∷ replicate 95 0) 1) 1 (1 ∷ 0 ∷ []))
    -- 9 comes before 10.
    × ((step_routine (file (a 1 ∷ [])) (2 ∷ []) [] (start 2)).answer.outcome ≡ Err (Reply 1))

-- ## Where demand 3 can say no more

unfoldable pub Sharp : Type 0
Sharp =
    -- A routine of n = 1 records, and 2n + 1 times as many steps: ##R with nothing on the stack.
    ((runs (return ∷ []) [] [] 9).steps ≡ 1)
    × ((runs (convert (return ∷ [])) [] [] 9).steps ≡ 3)
    -- The base's budget is above the count: under the count itself, here 0, a status 2 is still a 5.
    × (map status_number ((runs (a 1 ∷ []) [] [] 1).status ∷ (runs (convert (a 1 ∷ [])) [] [] 0).status ∷ []) ≡ 2 ∷ 5 ∷ [])
    -- Without refusal 6 it would not hold: on no `+a1; R##1` ends, and its lines ask again.
    × (log (+a 1 ∷ call 1 ∷ []) (0 ∷ 0 ∷ []) ≡ 1 ∷ 0 ∷ replicate 8 0)
    × (log (convert (+a 1 ∷ call 1 ∷ [])) (0 ∷ 0 ∷ []) ≡ 1 ∷ 0 ∷ 1 ∷ 0 ∷ replicate 6 0)

-- ## What to write instead of a routine that is refused 6

-- `+a1; R##5; a2; ##0; a3; ##R`, the block to write instead, and what is no help: a label between.
abbrev before-call : List Op
before-call = +a 1 ∷ call 5 ∷ a 2 ∷ jump 0 ∷ a 3 ∷ return ∷ []

abbrev call_in_block : List Op
call_in_block = +a⟨ 1 ∷ call 7 ∷ separator ∷ end conditional ∷ a 2 ∷ jump 0 ∷ a 3 ∷ return ∷ []

abbrev label_between : List Op
label_between = +a 1 ∷ label 9 ∷ call 6 ∷ a 2 ∷ jump 0 ∷ a 3 ∷ return ∷ []

-- `R##4; a1; ##0; +a2; ##R; a3`, and the block to write instead.
abbrev before-return : List Op
before-return = call 4 ∷ a 1 ∷ jump 0 ∷ +a 2 ∷ return ∷ a 3 ∷ []

abbrev return_in_block : List Op
return_in_block = call 4 ∷ a 1 ∷ jump 0 ∷ +a⟨ 2 ∷ return ∷ separator ∷ end conditional ∷ a 3 ∷ []

-- `+a1; +a2{; a3; }{; a4; }; a5`, and the test with the other sign, with a jump to what the first test would have skipped to.
abbrev before-header : List Op
before-header = +a 1 ∷ +a⟨ 2 ∷ a 3 ∷ separator ∷ a 4 ∷ end conditional ∷ a 5 ∷ []

abbrev jump_between : List Op
jump_between = -a 1 ∷ jump 4 ∷ +a⟨ 2 ∷ a 3 ∷ separator ∷ a 4 ∷ end conditional ∷ a 5 ∷ []

abbrev yes_each : List ℕ
yes_each = replicate 5 1

abbrev no_then_yes : List ℕ
no_then_yes = 0 ∷ replicate 4 1

-- Refused 6 at the test; what is written instead is accepted, and logs the same, on yes and on no.
abbrev Instead : List Op → ℕ → List Op → ℕ → List ℕ → List ℕ → Type 0
Instead refused at' written n on_yes on_no =
    (check_routine (file refused) ≡ Err (Skip at'))
    × (check_routine (file written) ≡ Ok n)
    × (log refused yes_each ≡ on_yes)
    × (log written yes_each ≡ on_yes)
    × (log refused no_then_yes ≡ on_no)
    × (log written no_then_yes ≡ on_no)

unfoldable pub Advice : Type 0
Advice =
    Instead before-call 1 call_in_block 8 (1 ∷ 0 ∷ 3 ∷ 0 ∷ 2 ∷ 0 ∷ replicate 4 0) (1 ∷ 0 ∷ 2 ∷ 0 ∷ replicate 6 0)
    × Instead before-return 4 return_in_block 8 (2 ∷ 0 ∷ 1 ∷ 0 ∷ replicate 6 0) (2 ∷ 0 ∷ 3 ∷ 0 ∷ replicate 6 0)
    × Instead before-header 1 jump_between 8 (1 ∷ 0 ∷ 2 ∷ 0 ∷ 3 ∷ 0 ∷ 5 ∷ 0 ∷ 0 ∷ 0 ∷ []) (1 ∷ 0 ∷ 3 ∷ 0 ∷ 5 ∷ 0 ∷ replicate 4 0)
    -- With a label between, the call is made on no as well.
    × (log label_between no_then_yes ≡ 1 ∷ 0 ∷ 3 ∷ 0 ∷ 2 ∷ 0 ∷ replicate 4 0)

-- ## The incident

-- `+a1{; -a2; ##6; a3; ##7; a4; a5; }`: are three readings there? do they agree? take theirs, else take the latest save; close.
abbrev pub incident : List Op
incident = +a⟨ 1 ∷ -a 2 ∷ jump 6 ∷ a 3 ∷ jump 7 ∷ a 4 ∷ a 5 ∷ end conditional ∷ []

-- Its base, and what it was where the line that the first record brings with it was not counted.
abbrev counted : List Op
counted = -a 1 ∷ jump 0 ∷ -a 2 ∷ jump 7 ∷ a 3 ∷ jump 8 ∷ a 4 ∷ a 5 ∷ jump 0 ∷ []

abbrev miscounted : List Op
miscounted = -a 1 ∷ jump 0 ∷ -a 2 ∷ jump 6 ∷ a 3 ∷ jump 7 ∷ a 4 ∷ a 5 ∷ jump 0 ∷ []

abbrev not_agreed : List ℕ
not_agreed = 1 ∷ 0 ∷ replicate 3 1

unfoldable pub Incident : Type 0
Incident =
    (convert incident ≡ counted)
    -- Agreed: theirs is taken. The miscounted base then takes the latest save as well.
    × (log incident yes_each ≡ 1 ∷ 0 ∷ 2 ∷ 0 ∷ 3 ∷ 0 ∷ 5 ∷ 0 ∷ 0 ∷ 0 ∷ [])
    × (log counted yes_each ≡ 1 ∷ 0 ∷ 2 ∷ 0 ∷ 3 ∷ 0 ∷ 5 ∷ 0 ∷ 0 ∷ 0 ∷ [])
    × (log miscounted yes_each ≡ 1 ∷ 0 ∷ 2 ∷ 0 ∷ 3 ∷ 0 ∷ 4 ∷ 0 ∷ 5 ∷ 0 ∷ [])
    -- Not agreed: all three take the latest save.
    × (log incident not_agreed ≡ 1 ∷ 0 ∷ 2 ∷ 0 ∷ 4 ∷ 0 ∷ 5 ∷ 0 ∷ 0 ∷ 0 ∷ [])
    × (log counted not_agreed ≡ 1 ∷ 0 ∷ 2 ∷ 0 ∷ 4 ∷ 0 ∷ 5 ∷ 0 ∷ 0 ∷ 0 ∷ [])
    × (log miscounted not_agreed ≡ 1 ∷ 0 ∷ 2 ∷ 0 ∷ 4 ∷ 0 ∷ 5 ∷ 0 ∷ 0 ∷ 0 ∷ [])
