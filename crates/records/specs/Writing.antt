-- What a writer leaves in the part lent to it.
use Rattle.std.specs.Prelude.{◌≡◌, ◌++◌}
use Rattle.rules.specs.Words.{ℕ, cond, List, length, drop, leb}
use Rattle.rules.specs.Record.{Rec, record_bytes, bytes_of}

-- One record where it has its eight bytes, and nothing where it has not: of the part o it leaves w, and answers k.
pub record Put (r : Rec) (o w : List ℕ) (k : ℕ) : Type 0 where
  pub answers : k ≡ cond (leb 8 (length o)) 8 0
  pub holds : w ≡ cond (leb 8 (length o)) (record_bytes r ++ drop 8 o) o

-- The records g at the start of the part, whose rest is as it was.
pub record Wrote (g : List Rec) (o w : List ℕ) (k : ℕ) : Type 0 where
  pub count : k ≡ length (bytes_of g)
  pub holds : w ≡ bytes_of g ++ drop k o
