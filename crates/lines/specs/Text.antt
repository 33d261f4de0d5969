-- What the listing program prints, byte for byte: the lines of a listing, and the line of a refusal.
use Rattle.std.specs.Prelude.{◌≡◌, ◌∷◌, ◌++◌}
use Rattle.rules.specs.Words.{ℕ, suc, cond, List, [], length, drop, leb}
use Rattle.rules.specs.declared.Refusal.{Refusal}
use Rattle.rules.specs.Refusals.{told}
use Rattle.rules.specs.Record.{Rec}
use Rattle.print.specs.Text.{ascii, decimal}
use Rattle.words.specs.Text.{named, instruction}

-- One line per base record: number and instruction. The first of these records has number i.
unfoldable pub line : ℕ → Rec → List ℕ
line i r = decimal i ++ ascii " " ++ instruction r ++ ascii "\n"

unfoldable pub lines : ℕ → List Rec → List ℕ
lines i [] = []
lines i (r ∷ rs) = line i r ++ lines (suc i) rs

-- `length`, source count and converted count; then the lines.
unfoldable pub listing : ℕ → List Rec → List ℕ
listing n rs = named "length " n ++ named " " (length rs) ++ ascii "\n" ++ lines 1 rs

-- A refusal prints only `refused`, number, place.
unfoldable pub refused_at : ℕ → ℕ → List ℕ
refused_at number place = named "refused " number ++ named " " place ++ ascii "\n"

unfoldable pub refused : Refusal → List ℕ
refused r = refused_at (told r).number (told r).place

-- refused_line(r, text): the line where it has room, and nothing where it has not.
pub record Line (t text : List ℕ) (answer : ℕ) (text' : List ℕ) : Type 0 where
  pub answers : answer ≡ cond (leb (length t) (length text)) (length t) 0
  pub output : text' ≡ cond (leb (length t) (length text)) (t ++ drop (length t) text) text
