-- A record of a file by its number.
use Rattle.rules.specs.Words.{ℕ, Option, None, Some, List}
use Rattle.rules.specs.Numbers.{at}
use Rattle.rules.specs.Record.{Rec, rec, records}

-- Record number i of the file; kind, x and y are 0 where there is none.
unfoldable pub or_nothing : Option Rec → Rec
or_nothing None = rec 0 0 0
or_nothing (Some r) = r

unfoldable pub rec_at : List ℕ → ℕ → Rec
rec_at s i = or_nothing (at (records s) i)
