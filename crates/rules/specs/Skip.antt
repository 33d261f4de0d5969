-- The places added in the base, refusal 6 and the converted length.
use Rattle.std.specs.Prelude.{◌+◌, ◌*◌, ◌&&◌, ◌||◌, ◌∷◌}
use Rattle.rules.specs.Words.{ℕ, suc, Bool, not, cond, Option, None, Some, List, [], length, eqb, ltb}
use Rattle.rules.specs.declared.Row.{Row}
use Rattle.rules.specs.declared.Notation.TheVariants.{Routine}
use Rattle.rules.specs.Table.{row_of}
use Rattle.rules.specs.Instruction.{Op, encode}

-- The places that a record adds in the base of a routine of n records: the last column of the table.
unfoldable pub added_by : ℕ → Option Row → ℕ
added_by n None = 0
added_by n (Some row) = row.once + row.each * n

unfoldable pub added : ℕ → Op → ℕ
added n o = added_by n (row_of Routine (encode o).kind)

-- A kind that adds places.
unfoldable pub adding : Op → Bool
adding o = not (eqb (added 1 o) 0)

-- A plain test, kind 2 or 3.
unfoldable pub plain_test : Op → Bool
plain_test o = eqb (encode o).kind 2 || eqb (encode o).kind 3

-- Refusal 6: a plain test may not stand directly before a kind that adds places. The lowest such test in the records from number i
-- on: 0 if there is none.
unfoldable pub skip_from : ℕ → List Op → ℕ
skip_from i [] = 0
skip_from i (o ∷ []) = 0
skip_from i (o ∷ (p ∷ os)) = let r = skip_from (suc i) (p ∷ os) in cond (plain_test o && adding p) i r

unfoldable pub skip : List Op → ℕ
skip L = skip_from 1 L

-- Converted length: n, plus one for each record of kind 8, 9, 12, 13 or 15, plus 6n for each ##R.
unfoldable pub added_all : ℕ → List Op → ℕ
added_all n [] = 0
added_all n (o ∷ os) = added n o + added_all n os

unfoldable pub converted_length : List Op → ℕ
converted_length L = length L + added_all (length L) L

-- Refusal 7: a converted length above 4,096.
unfoldable pub grown : List Op → Bool
grown L = ltb 4096 (converted_length L)
