-- What a record becomes in each stage, by its kind, with its jumps sent on; and what a whole stage writes.
use Rattle.std.specs.Prelude.{◌∷◌, ◌++◌}
use Rattle.rules.specs.Words.{ℕ, zero, suc, cond, List, [], get_or, eqb, leb}
use Rattle.rules.specs.Record.{Rec, rec, count}
use Rattle.rules.specs.Numbers.{or_zero, past}
use Rattle.rules.specs.Instruction.{conditional, loop, ops}
use Rattle.rules.specs.Labels.{target, target2}
use Rattle.rules.specs.Partners.{end_of, arm_of, header_of}
use Rattle.laws.proofs.SecondLevel.{groups}
use Rattle.records.specs.Reading.{rec_at}
use Rattle.places.specs.declared.Stage.{Stage}
use Rattle.places.specs.declared.Stage.TheVariants.{Labels, Calls, Loops, Conditionals}
use Rattle.places.specs.Stages.{leads, kept}

-- ##k alone; a record and behind it a second-level ##k.
abbrev pub to : ℕ → List Rec
to k = rec 4 k 0 ∷ []

abbrev pub before : Rec → ℕ → List Rec
before r k = r ∷ to k

-- Stage 1: at place i, [s] becomes ##(i+1); a goto becomes ##m with m its target, 0 if it has none.
unfoldable pub labelled : List ℕ → ℕ → Rec → List Rec
labelled s i r =
    cond (eqb r.kind 5) (to (suc i)) (cond (eqb r.kind 6) (to (or_zero (target (ops s) r.x))) (cond (eqb r.kind 7) (to (or_zero (target2 (ops s) r.x r.y))) (r ∷ [])))

-- Stage 2: the chain for j; R##k at i becomes push(i+1) followed by ##k, and ##R the chain for n, the routine's record count.
unfoldable pub chain_of : List ℕ → ℕ → List Rec
chain_of s zero = to 0
chain_of s (suc j) = rec 8 1003 (suc j) ∷ rec 1 1002 0 ∷ rec 4 (leads Calls s (suc j)) 0 ∷ rec 10 0 0 ∷ (chain_of s j ++ (rec 11 0 0 ∷ []))

-- The same by a table of where jumps lead.
unfoldable pub chain_by : List ℕ → ℕ → List Rec
chain_by t zero = to 0
chain_by t (suc j) = rec 8 1003 (suc j) ∷ rec 1 1002 0 ∷ rec 4 (get_or t (suc j) 0) 0 ∷ rec 10 0 0 ∷ (chain_by t j ++ (rec 11 0 0 ∷ []))

unfoldable pub called : List ℕ → ℕ → Rec → List Rec
called s i r = cond (eqb r.kind 15) (before (rec 1 1001 (suc i)) (leads Calls s r.x)) (cond (eqb r.kind 16) (chain_of s (count s)) (kept Calls s r ∷ []))

-- Stage 3: with k the partner's number, +a{* becomes -a and ##(k+1); -a{* becomes +a and the same; *} becomes ##k.
unfoldable pub looped : List ℕ → ℕ → Rec → List Rec
looped s i r =
    cond (eqb r.kind 12) (before (rec 3 r.x r.y) (leads Loops s (past (end_of loop (ops s) i))))
    (cond (eqb r.kind 13) (before (rec 2 r.x r.y) (leads Loops s (past (end_of loop (ops s) i))))
    (cond (eqb r.kind 14) (to (leads Loops s (header_of loop (ops s) i))) (kept Loops s r ∷ [])))

-- Stage 4: with k the separator's number, or the end's where there is none, +a{ becomes -a and ##(k+1), -a{ becomes +a and the same;
-- }{ becomes ##(k+1), k its end's number; } at i becomes ##(i+1).
unfoldable pub parted : List ℕ → ℕ → Rec → List Rec
parted s i r =
    cond (eqb r.kind 8) (before (rec 3 r.x r.y) (leads Conditionals s (past (arm_of (ops s) i))))
    (cond (eqb r.kind 9) (before (rec 2 r.x r.y) (leads Conditionals s (past (arm_of (ops s) i))))
    (cond (eqb r.kind 10) (to (leads Conditionals s (past (end_of conditional (ops s) i))))
    (cond (eqb r.kind 11) (to (leads Conditionals s (suc i))) (kept Conditionals s r ∷ []))))

-- Any other record stays.
unfoldable pub group : Stage → List ℕ → ℕ → List Rec
group Labels s i = labelled s i (rec_at s i)
group Calls s i = called s i (rec_at s i)
group Loops s i = looped s i (rec_at s i)
group Conditionals s i = parted s i (rec_at s i)

-- The groups of all records, of a file no longer than a base may be.
unfoldable pub staged : Stage → List ℕ → List Rec
staged stage s = cond (leb (count s) 4096) (groups (group stage s) (count s)) []
