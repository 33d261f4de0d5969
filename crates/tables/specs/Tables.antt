-- A table has a number for each record of a file, found for all of them in one pass, so that each can be looked up.
use Rattle.std.specs.Prelude.{◌&&◌, ◌∷◌, ◌++◌}
use Rattle.rules.specs.Words.{ℕ, suc, Bool, cond, List, length, drop, leb, ltb}
use Rattle.laws.proofs.Instructions.{tabulate}

-- f of records 1 to n. Entry 0 is 0: there is no such record.
unfoldable pub table_of : (ℕ → ℕ) → ℕ → List ℕ
table_of f n = 0 ∷ tabulate f 1 n

-- Room for a table of n records. There is none for a file longer than a base may be.
unfoldable pub room : ℕ → List ℕ → Bool
room n t = leb n 4096 && ltb n (length t)

-- The table of f at the start of t, whose rest is as it was. A t without room is left as it is.
unfoldable pub filled : (ℕ → ℕ) → ℕ → List ℕ → List ℕ
filled f n t = cond (room n t) (table_of f n ++ drop (suc n) t) t
