-- The record. Eight bytes each, no header. Byte 0 is the kind. Bytes 2-3 are x and bytes 4-5 are y, low byte first. Bytes 1, 6 and 7
-- are zero.
use Rattle.std.specs.Prelude.{◌+◌, ◌*◌, ◌/◌, ◌%◌, ◌&&◌, ◌∷◌, ◌++◌}
use Rattle.rules.specs.declared.Record.{Record}
use Rattle.rules.specs.Words.{ℕ, zero, suc, Bool, List, [], length, drop, get_or, eqb}

abbrev pub Rec : Type 0
Rec = Record

abbrev pub rec : ℕ → ℕ → ℕ → Rec
rec k x y = record { kind = k; x = x; y = y }

-- The two bytes of a number, low byte first.
abbrev pub low_byte : ℕ → ℕ
low_byte x = x % 256

abbrev pub high_byte : ℕ → ℕ
high_byte x = x / 256 % 256

-- The bytes of one record, and of a list of them.
abbrev pub record_bytes : Rec → List ℕ
record_bytes r = r.kind ∷ 0 ∷ low_byte r.x ∷ high_byte r.x ∷ low_byte r.y ∷ high_byte r.y ∷ 0 ∷ 0 ∷ []

abbrev pub bytes_of : List Rec → List ℕ
bytes_of [] = []
bytes_of (r ∷ rs) = record_bytes r ++ bytes_of rs

-- How many records the bytes hold.
abbrev pub count : List ℕ → ℕ
count s = length s / 8

-- The record that the next eight bytes are, whether its bytes 1, 6 and 7 are zero, and the next n records.
abbrev pub record_of : List ℕ → Rec
record_of s = rec (get_or s 0 0) (get_or s 2 0 + 256 * get_or s 3 0) (get_or s 4 0 + 256 * get_or s 5 0)

abbrev pub spare_zero : List ℕ → Bool
spare_zero s = eqb (get_or s 1 0) 0 && eqb (get_or s 6 0) 0 && eqb (get_or s 7 0) 0

abbrev pub records_of : ℕ → List ℕ → List Rec
records_of zero s = []
records_of (suc n) s = record_of s ∷ records_of n (drop 8 s)

abbrev pub records : List ℕ → List Rec
records s = records_of (count s) s
