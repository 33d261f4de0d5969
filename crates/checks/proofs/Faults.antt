-- Refusals 1 to 4, as the code looks for them: record by record from the left, the answer from here on being the whole answer.
--     no_row, not_spare, in_range, out_of_range     fault 3 or 4 of one record, by the row of its kind, its spare bytes and its numbers
--     is_ragged, is_long, starts, faulty, passed, ends     the answer of a file: refusals 1 and 2, and then one record after another
use mathlib.Core.Path.{◌≡◌, sym, ap, ◌∙◌}
use Prim.Native.Nat.{ℕ, suc, ◌+◌, ◌-◌, ◌*◌, ◌%◌, ◌≤◌, ◌<◌}
use native.Mathlib.Omega.{arith}
use native.Mathlib.Numerals.{add-one}
use mathlib.Core.Bool.{Bool, true, false, not, ◌&&◌, ◌||◌}
use Rattle.std.specs.Prelude.{Option, None, Some, Ok, Err}
use mathlib.Core.List.{List}
use lib.ListN.{length, drop}
use lib.Seq.{drop-drop}
use borrow.Author.Tests.{eq-eqb, ne_eqb, lt-ltb, le-ltb}
use Rattle.rules.specs.declared.Notation.{Notation}
use Rattle.rules.specs.declared.Row.{Row}
use Rattle.rules.specs.declared.Refusal.{Refusal}
use Rattle.rules.specs.declared.Refusal.TheVariants.{Ragged, Long, Kind, Field}
use Rattle.rules.specs.Refusals.{Verdict, when, or_else, first, verdict_of, verdict}
use Rattle.rules.specs.Record.{Rec, record_of, spare_zero, count}
use Rattle.rules.specs.Table.{row_of}
use Rattle.rules.specs.Checks.{listed, in_row, stack_action, has_stack, ragged, most, long, kind_fault, field_fault, fault, fault_from, record_checks}
use Rattle.rules.specs.Answers.{check_records}
use Rattle.laws.proofs.Refusals.{or_none}
use Rattle.laws.proofs.Records.{record-drop, records-at}
use Rattle.records.specs.Reading.{rec_at, or_nothing}

-- ## One record

-- Faults 3 and 4 of a record, by its row and by whether its spare bytes are zero.
abbrev fault_by : Notation → ℕ → Rec → Option Row → Bool → Option Refusal
fault_by nt i r w z = or_else (when (not (listed w && z)) (Kind i)) (when (not (in_row w r || has_stack nt && stack_action r)) (Field i))

-- The record after the first k.
module _ (nt : Notation) (s : List ℕ) (k : ℕ) (h : k < count s) where
  here : record_of (drop (8 * k) s) ≡ rec_at s (k + 1)
  unfolding rec_at or_nothing
  here = record-drop s k ∙ sym (rw add-one (ap or_nothing (records-at s k h)))

  is_by : fault nt (k + 1) (drop (8 * k) s) ≡ fault_by nt (k + 1) (rec_at s (k + 1)) (row_of nt (rec_at s (k + 1)).kind) (spare_zero (drop (8 * k) s))
  unfolding fault kind_fault field_fault
  is_by = ap (λ (r : Rec). fault_by nt (k + 1) r (row_of nt r.kind) (spare_zero (drop (8 * k) s))) here

  pub no_row : row_of nt (rec_at s (k + 1)).kind ≡ None → fault nt (k + 1) (drop (8 * k) s) ≡ Some (Kind (k + 1))
  unfolding listed when or_else
  no_row e = rw e at is_by

  module _ {row : Row} (e : row_of nt (rec_at s (k + 1)).kind ≡ Some row) where
    pub not_spare : spare_zero (drop (8 * k) s) ≡ false → fault nt (k + 1) (drop (8 * k) s) ≡ Some (Kind (k + 1))
    unfolding listed when or_else
    not_spare z = rw (e, z) at is_by

    module _ (z : spare_zero (drop (8 * k) s) ≡ true) where
      pub in_range : (in_row (Some row) (rec_at s (k + 1)) || has_stack nt && stack_action (rec_at s (k + 1))) ≡ true → fault nt (k + 1) (drop (8 * k) s) ≡ None
      unfolding listed when or_else
      in_range f = rw (e, z, f) at is_by

      pub out_of_range : (in_row (Some row) (rec_at s (k + 1)) || has_stack nt && stack_action (rec_at s (k + 1))) ≡ false → fault nt (k + 1) (drop (8 * k) s) ≡ Some (Field (k + 1))
      unfolding listed when or_else
      out_of_range f = rw (e, z, f) at is_by

pub ruleset of_record = (no_row, not_spare, in_range, out_of_range)

-- ## The file

module _ (nt : Notation) (s : List ℕ) where
  pub is_ragged : ¬ (length s % 8 ≡ 0) → check_records nt s ≡ Err Ragged
  unfolding check_records verdict verdict_of record_checks first or_else when ragged
  is_ragged h = rw (ne_eqb _ _ h)

  pub is_long : length s % 8 ≡ 0 → most nt < count s → check_records nt s ≡ Err Long
  unfolding check_records verdict verdict_of record_checks first or_else when ragged long
  is_long e h = rw (eq-eqb _ _ e, lt-ltb _ _ h)

  -- the answer that the records after the first k give
  pub answer_from : ℕ → Verdict
  answer_from k = verdict_of (fault_from nt (suc k) (count s - k) (drop (8 * k) s)) (count s)

  pub starts : length s % 8 ≡ 0 → count s ≤ most nt → check_records nt s ≡ answer_from 0
  unfolding answer_from check_records verdict record_checks first or_else when ragged long
  starts e h = let f : count s - 0 ≡ count s = omega arith in rw (eq-eqb _ _ e, le-ltb _ _ h, or_none, f)

  from : (k : ℕ) → k < count s → fault_from nt (suc k) (count s - k) (drop (8 * k) s) ≡ or_else (fault nt (suc k) (drop (8 * k) s)) (fault_from nt (suc (suc k)) (count s - suc k) (drop (8 * suc k) s))
  unfolding fault_from
  from k h =
      let e : count s - k ≡ suc (count s - suc k) = omega arith in
      let f : 8 * k + 8 ≡ 8 * suc k = omega arith in
      rw e (ap (λ (t : List ℕ). or_else (fault nt (suc k) (drop (8 * k) s)) (fault_from nt (suc (suc k)) (count s - suc k) t)) (rw f at (drop-drop 8 (8 * k) s)))

  module _ (k : ℕ) (h : k < count s) where
    pub faulty : {r : Refusal} → fault nt (k + 1) (drop (8 * k) s) ≡ Some r → answer_from k ≡ Err r
    unfolding answer_from or_else verdict_of
    faulty e = let f = rw add-one at e in rw (from k h, f)

    pub passed : fault nt (k + 1) (drop (8 * k) s) ≡ None → answer_from k ≡ answer_from (k + 1)
    unfolding answer_from or_else
    passed e = let f = rw add-one at e in rw (from k h, f, add-one)

  pub ends : (k : ℕ) → count s ≤ k → answer_from k ≡ Ok (count s)
  unfolding answer_from fault_from verdict_of
  ends k h = let e : count s - k ≡ 0 = omega arith in rw e

pub ruleset from_left = (is_ragged, is_long, starts, faulty, passed, ends)
