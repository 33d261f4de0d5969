-- Refusals 1 to 4, for a routine, a base and a relative base alike.
use Rattle.std.specs.Prelude.{◌%◌, ◌&&◌, ◌||◌, ◌∷◌}
use Rattle.rules.specs.Words.{ℕ, zero, suc, Bool, true, false, not, Option, None, Some, List, [], length, drop, eqb, leb, ltb}
use Rattle.rules.specs.declared.Row.{Row}
use Rattle.rules.specs.declared.Refusal.{Refusal}
use Rattle.rules.specs.declared.Refusal.TheVariants.{Ragged, Long, Kind, Field}
use Rattle.rules.specs.Numbers.{names}
use Rattle.rules.specs.Record.{Rec, record_of, spare_zero, count}
use Rattle.rules.specs.declared.Notation.{Notation}
use Rattle.rules.specs.declared.Notation.TheVariants.{Routine, Base, Relative}
use Rattle.rules.specs.Table.{row_of}
use Rattle.rules.specs.Refusals.{when, or_else}

-- 1 ragged: the byte count is no multiple of 8.
unfoldable pub ragged : List ℕ → Bool
ragged s = not (eqb (length s % 8) 0)

-- 2 long: more records than allowed. A routine has 0 to 512 records, a base or relative base 0 to 4,096.
unfoldable pub most : Notation → ℕ
most Routine = 512
most Base = 4096
most Relative = 4096

unfoldable pub long : Notation → List ℕ → Bool
long nt s = ltb (most nt) (count s)

-- 3 kind: a kind not of this notation, or byte 1, 6 or 7 not zero.
unfoldable pub listed : Option Row → Bool
listed None = false
listed (Some row) = true

unfoldable pub kind_fault : Notation → List ℕ → Bool
kind_fault nt s = not (listed (row_of nt (record_of s).kind) && spare_zero s)

-- 4 field: x or y outside its range. In a base and a relative base x of kinds 1 to 3 may also be 1001 (push), 1002 (pop) or
-- 1003 (compare the top); y is 0..9,999 for 1001 and 1003, and zero otherwise.
unfoldable pub in_row : Option Row → Rec → Bool
in_row None r = false
in_row (Some row) r = leb row.xmin r.x && leb r.x row.xmax && leb row.ymin r.y && leb r.y row.ymax

unfoldable pub stack_action : Rec → Bool
stack_action r = names 3 r.kind && ((eqb r.x 1001 || eqb r.x 1003) && leb r.y 9999 || eqb r.x 1002 && eqb r.y 0)

unfoldable pub has_stack : Notation → Bool
has_stack Routine = false
has_stack Base = true
has_stack Relative = true

unfoldable pub field_fault : Notation → Rec → Bool
field_fault nt r = not (in_row (row_of nt r.kind) r || has_stack nt && stack_action r)

-- The lowest record with fault 3 or 4, 3 first within it: of the next n records, the first of which has number i.
unfoldable pub fault : Notation → ℕ → List ℕ → Option Refusal
fault nt i s = or_else (when (kind_fault nt s) (Kind i)) (when (field_fault nt (record_of s)) (Field i))

unfoldable pub fault_from : Notation → ℕ → ℕ → List ℕ → Option Refusal
fault_from nt i zero s = None
fault_from nt i (suc n) s = or_else (fault nt i s) (fault_from nt (suc i) n (drop 8 s))

-- Order: 1, 2; then the lowest record with fault 3 or 4.
unfoldable pub record_checks : Notation → List ℕ → List (Option Refusal)
record_checks nt s = when (ragged s) Ragged ∷ when (long nt s) Long ∷ fault_from nt 1 (count s) s ∷ []
