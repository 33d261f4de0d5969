-- The records that are read pass the routine's checks: their kinds are listed and their fields in range.
use mathlib.Core.Path.{◌≡◌}
use Prim.Native.Nat.{◌≤◌, ◌<◌}
use native.Mathlib.Omega.{arith}
use Rattle.rules.specs.Words.{ℕ, suc, true, None, List, length}
use Rattle.rules.specs.declared.Notation.TheVariants.{Routine}
use Rattle.rules.specs.Record.{Rec, rec, bytes_of, count}
use Rattle.rules.specs.Table.{row_of}
use Rattle.rules.specs.Refusals.{first}
use Rattle.rules.specs.Checks.{most, listed, in_row, field_fault, record_checks}
use Rattle.rules.specs.Answers.{check_records}
use Rattle.laws.proofs.Records.{All, Small}
use Rattle.laws.proofs.Refusals.{accepted-none}
use Rattle.faithful.proofs.Accepted.{Proper, accepted}
use Rattle.text.specs.Names.{same}
use Rattle.written.proofs.Numbered.{given_most}
use Rattle.written.proofs.Fields.{covered, all_suited}
use Rattle.written.proofs.Made.{Right, of_none, of_action, of_number, of_label, of_labels, Rights, no_more, one_more}

proper_if : (r : Rec) → (listed (row_of Routine r.kind) ≡ true) × (in_row (row_of Routine r.kind) r ≡ true) → r.x < 65536 → r.y < 65536 → Proper Routine r
unfolding field_fault
proper_if r h x y = record { kind-listed = h.0; fields_in = rw h.1; small = (x, y) }

right_proper : {es : List (List ℕ)} {m m' : ℕ} {r : Rec} → length es ≤ 999 → Right es m r m' → Proper Routine r
unfolding same
right_proper l (of_none i h e) =
    let c = all_suited i h in
    proper_if (rec (suc i) 0 0) (covered 0 0 0 0 (row_of Routine (suc i)) (rec (suc i) 0 0) (rw e at c) (omega arith) (omega arith) (omega arith) (omega arith)) (omega arith) (omega arith)
right_proper l (of_action i x h e p q lo hi) =
    let c = all_suited i h in
    proper_if (rec (suc i) x 0) (covered 1 999 0 0 (row_of Routine (suc i)) (rec (suc i) x 0) (rw e at c) lo (omega arith) (omega arith) (omega arith)) (omega arith) (omega arith)
right_proper l (of_number i x h e q) =
    let c = all_suited i h in
    proper_if (rec (suc i) x 0) (covered 0 9999 0 0 (row_of Routine (suc i)) (rec (suc i) x 0) (rw e at c) (omega arith) q (omega arith) (omega arith)) (omega arith) (omega arith)
right_proper l (of_label i x m' h e tg g) =
    let c = all_suited i h in
    let u = given_most g in
    proper_if (rec (suc i) x 0) (covered 1 999 0 0 (row_of Routine (suc i)) (rec (suc i) x 0) (rw (e, tg) at c) g.one u (omega arith) (omega arith)) (omega arith) (omega arith)
right_proper l (of_labels i x y m' m'' h e tg g g') =
    let c = all_suited i h in
    let u = given_most g in
    let v = given_most g' in
    proper_if (rec (suc i) x y) (covered 1 999 1 999 (row_of Routine (suc i)) (rec (suc i) x y) (rw (e, tg) at c) g.one u g'.one v) (omega arith) (omega arith)

all_proper : {es : List (List ℕ)} {m : ℕ} {rs : List Rec} → length es ≤ 999 → Rights es m rs → All (Proper Routine) rs
all_proper l (no_more m) = tt
all_proper l (one_more m m' r rs g gs) = (right_proper l g, all_proper l gs)

pub all_small : {es : List (List ℕ)} {m : ℕ} {rs : List Rec} → length es ≤ 999 → Rights es m rs → All Small rs
all_small l (no_more m) = tt
all_small l (one_more m m' r rs g gs) = ((right_proper l g).small, all_small l gs)

pub no-refusal : {es : List (List ℕ)} {m : ℕ} {rs : List Rec} → length es ≤ 999 → length rs ≤ 512 → Rights es m rs → first (record_checks Routine (bytes_of rs)) ≡ None
unfolding check_records most
no-refusal {rs = rs} l n g = accepted-none (record_checks Routine (bytes_of rs)) (count (bytes_of rs)) (accepted Routine rs n (all_proper l g))
