-- Checked by hand: the paper's ● cases and its listing example, row by row in the paper's order. Rows of our own stand in Beside.
-- A row speaks of a file's bytes where it asks what a call answers, and of instructions where it asks what they become.
use mathlib.Core.Path.{◌≡◌}
use Rattle.std.specs.Prelude.{◌∷◌, Ok, Err}
use Rattle.rules.specs.Words.{ℕ, true, false, List, [], length, replicate}
use Rattle.rules.specs.declared.Refusal.TheVariants.{Nesting, Label, Skip}
use Rattle.rules.specs.declared.Status.{Status}
use Rattle.rules.specs.declared.Status.TheVariants.{Ended, StackFull, Spent}
use Rattle.rules.specs.declared.Ran.{Ran}
use Rattle.rules.specs.Instruction.{outside, conditional, loop, Op, act, test, jump, label, goto, goto2, header, separator, end, call, return, file}
use Rattle.rules.specs.Convert.{convert}
use Rattle.rules.specs.Run.{runs}
use Rattle.rules.specs.Answers.{check_routine, base_count, converting, no_state, run_routine, run_base}

abbrev pub a : ℕ → Op
a k = act (outside k)

abbrev pub +a : ℕ → Op
+a k = test true (outside k)

abbrev pub -a : ℕ → Op
-a k = test false (outside k)

abbrev pub +a⟨ : ℕ → Op
+a⟨ k = header conditional true (outside k)

-- Stopped with this status after so many steps, replies used and actions logged, at position 0 with a fresh stack.
abbrev pub stopped_after : Status → ℕ → ℕ → ℕ → Ran
stopped_after w steps replies actions =
    record { outcome = Ok w; state = no_state; steps = steps; replies = replies; actions = actions }

-- `R##4; a1; ##0; a2; ##R`
abbrev pub there_and_back : List Op
there_and_back = call 4 ∷ a 1 ∷ jump 0 ∷ a 2 ∷ return ∷ []

-- `-a5{*; a6; +a7{; a8; }{; a9; }; *}; a10`
abbrev pub listed : List Op
listed = header loop false (outside 5) ∷ a 6 ∷ +a⟨ 7 ∷ a 8 ∷ separator ∷ a 9 ∷ end conditional ∷ end loop ∷ a 10 ∷ []

unfoldable pub Cases : Type 0
Cases =
    -- Empty routine: accepted, length 0, ends in 0 steps.
    (check_routine [] ≡ Ok 0)
    × (converting [] [] [] ≡ Ok 0)
    × (convert [] ≡ [])
    × ((run_routine [] [] [] 9).answer ≡ stopped_after Ended 0 0 0)
    -- ##1: runs to any budget, no action. ##2 alone becomes ##0.
    × ((budget : ℕ) → ((runs (jump 1 ∷ []) [] [] budget).steps ≡ budget) × ((runs (jump 1 ∷ []) [] [] budget).status ≡ Spent) × ((runs (jump 1 ∷ []) [] [] budget).mem.logged ≡ 0))
    × (convert (jump 2 ∷ []) ≡ jump 0 ∷ [])
    -- [5]; a1; ##[5] becomes ##2; a1; ##1.
    × (convert (label 5 ∷ a 1 ∷ goto 5 ∷ []) ≡ jump 2 ∷ a 1 ∷ jump 1 ∷ [])
    -- ##[5][5]; [5]; a1 refused 14 at 1 (C-13).
    × (check_routine (file (goto2 5 5 ∷ label 5 ∷ a 1 ∷ [])) ≡ Err (Label 1))
    -- +a1; a2 with reply 0: ends after one step, log 1.
    × (run_routine (file (+a 1 ∷ a 2 ∷ [])) (0 ∷ []) (7 ∷ 7 ∷ 7 ∷ 7 ∷ []) 500 ≡ record { answer = stopped_after Ended 1 1 1; log = 1 ∷ 0 ∷ 7 ∷ 7 ∷ [] })
    -- +a1; R##1 refused 6 at 1. R##1; +a1 accepted, length 3.
    × (check_routine (file (+a 1 ∷ call 1 ∷ [])) ≡ Err (Skip 1))
    × (check_routine (file (call 1 ∷ +a 1 ∷ [])) ≡ Ok 2)
    × (converting (file (call 1 ∷ +a 1 ∷ [])) (replicate 24 0) (replicate 24 0) ≡ Ok 3)
    -- }{ refused 5 at 1. +a1{; +a2{*; } refused 5 at 3.
    × (check_routine (file (separator ∷ [])) ≡ Err (Nesting 1))
    × (check_routine (file (+a⟨ 1 ∷ header loop true (outside 2) ∷ end conditional ∷ [])) ≡ Err (Nesting 3))
    -- R##4; a1; ##0; a2; ##R becomes 36 records. With replies 1, 1 the routine logs 2, 1 in 5 steps; the base does in 14.
    × (length (convert there_and_back) ≡ 36)
    × (base_count (file there_and_back) ≡ 36)
    × (run_routine (file there_and_back) (1 ∷ 1 ∷ []) (7 ∷ 7 ∷ 7 ∷ 7 ∷ 7 ∷ []) 50 ≡ record { answer = stopped_after Ended 5 2 2; log = 2 ∷ 0 ∷ 1 ∷ 0 ∷ 7 ∷ [] })
    × (run_base (file (convert there_and_back)) (1 ∷ 1 ∷ []) (7 ∷ 7 ∷ 7 ∷ 7 ∷ 7 ∷ []) 50 ≡ record { answer = stopped_after Ended 14 2 2; log = 2 ∷ 0 ∷ 1 ∷ 0 ∷ 7 ∷ [] })
    -- R##1: 96 steps, then status 4; its base takes 192.
    × ((runs (call 1 ∷ []) [] [] 500).steps ≡ 96)
    × ((runs (call 1 ∷ []) [] [] 500).status ≡ StackFull)
    × ((runs (convert (call 1 ∷ [])) [] [] 500).steps ≡ 192)
    × ((runs (convert (call 1 ∷ [])) [] [] 500).status ≡ StackFull)
    -- The listing: length 9 11, and the base.
    × (check_routine (file listed) ≡ Ok 9)
    × (base_count (file listed) ≡ 11)
    × (convert listed ≡ +a 5 ∷ jump 11 ∷ a 6 ∷ -a 7 ∷ jump 8 ∷ a 8 ∷ jump 10 ∷ a 9 ∷ jump 10 ∷ jump 1 ∷ a 10 ∷ [])
