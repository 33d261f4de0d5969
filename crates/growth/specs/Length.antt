-- The kind of a plain test, and the converted length of a file that is not too long.
use Rattle.std.specs.Prelude.{◌||◌}
use Rattle.rules.specs.Words.{ℕ, Bool, cond, List, eqb, leb}
use Rattle.rules.specs.Record.{count}
use Rattle.rules.specs.Instruction.{ops}
use Rattle.rules.specs.Skip.{converted_length}

unfoldable pub test_kind : ℕ → Bool
test_kind k = eqb k 2 || eqb k 3

-- A routine has 0 to 512 records; of a longer file no length is counted.
unfoldable pub base_length : List ℕ → ℕ
base_length s = cond (leb (count s) 512) (converted_length (ops s)) 0
