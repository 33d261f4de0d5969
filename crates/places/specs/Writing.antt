-- What a writer of several records leaves in the part lent to it.
use Rattle.std.specs.Prelude.{◌≡◌, ◌++◌}
use Rattle.rules.specs.Words.{ℕ, List, length, take, drop}
use Rattle.rules.specs.Record.{Rec, bytes_of, count}

-- As many of the records g as the part o has room for, whole; its rest is as it was: of o a writer leaves w, and answers k bytes.
pub record Fitted (g : List Rec) (o w : List ℕ) (k : ℕ) : Type 0 where
  pub answers : k ≡ length (bytes_of (take (count o) g))
  pub holds : w ≡ bytes_of (take (count o) g) ++ drop k o
