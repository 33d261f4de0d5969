-- What a writer of text leaves in the part lent to it.
use Rattle.std.specs.Prelude.{◌≡◌, ◌++◌}
use Rattle.rules.specs.Words.{ℕ, List, length, take, drop}

-- As much of the text t as the part o has room for, at its start; its rest is as it was: of o a writer leaves w, and answers k bytes.
pub record Printed (t o w : List ℕ) (k : ℕ) : Type 0 where
  pub answers : k ≡ length (take (length o) t)
  pub holds : w ≡ take (length o) t ++ drop k o
