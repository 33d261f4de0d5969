-- A file of proper records is accepted: the checks put together again. (What an accepted file is stands in `rules`' laws of refusals.)
use mathlib.Core.Path.{◌≡◌, refl}
use Prim.Native.Nat.{◌≤◌}
use native.Mathlib.Omega.{arith}
use borrow.Author.Tests.{le-ltb, eq-eqb}
use Rattle.std.specs.Prelude.{◌%◌, ◌∷◌, ◌++◌, Ok}
use Rattle.rules.specs.Words.{ℕ, suc, true, false, None, List, [], length}
use Rattle.rules.specs.declared.Notation.{Notation}
use Rattle.rules.specs.Record.{Rec, record_bytes, bytes_of}
use Rattle.rules.specs.Table.{row_of}
use Rattle.rules.specs.Refusals.{when, or_else, first, verdict_of, verdict}
use Rattle.rules.specs.Checks.{ragged, most, long, listed, kind_fault, field_fault, fault, fault_from, record_checks}
use Rattle.rules.specs.Answers.{check_records}
use Rattle.laws.proofs.Records.{All, Small, two_bytes, bytes_length, bytes_count}

-- A record of the notation, with its fields in range.
pub record Proper (nt : Notation) (r : Rec) : Type 0 where
  pub kind-listed : listed (row_of nt r.kind) ≡ true
  pub fields_in : field_fault nt r ≡ false
  pub small : Small r

no-fault : (nt : Notation) (i : ℕ) (r : Rec) (t : List ℕ) → Proper nt r → fault nt i (record_bytes r ++ t) ≡ None
unfolding fault or_else when kind_fault
no-fault nt i r t f = rw (f.kind-listed, two_bytes r.x f.small.0, two_bytes r.y f.small.1, f.fields_in)

no_faults : (nt : Notation) (i : ℕ) (rs : List Rec) → All (Proper nt) rs → fault_from nt i (length rs) (bytes_of rs) ≡ None
unfolding fault_from or_else
no_faults nt i [] h = refl
no_faults nt i (r ∷ rs) h = rw (no-fault nt i r (bytes_of rs) h.0) (no_faults nt (suc i) rs h.1)

pub accepted : (nt : Notation) (rs : List Rec) → length rs ≤ most nt → All (Proper nt) rs → check_records nt (bytes_of rs) ≡ Ok (length rs)
unfolding check_records verdict verdict_of record_checks first or_else when ragged long
accepted nt rs l h =
    let e : length (bytes_of rs) % 8 ≡ 0 = omega (arith, bytes_length rs) in
    rw (eq-eqb (length (bytes_of rs) % 8) 0 e, bytes_count rs, le-ltb (most nt) (length rs) l, no_faults nt 1 rs h)
