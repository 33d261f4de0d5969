-- The listing of a routine: what the listing program prints, byte for byte.
use Rattle.rules.specs.Words.{ℕ, List}
use Rattle.rules.specs.Record.{count}
use Rattle.rules.specs.Answers.{base_records}
use Rattle.lines.specs.Text.{listing}

-- The listing of a routine's bytes.
unfoldable pub text_of : List ℕ → List ℕ
text_of s = listing (count s) (base_records s)
