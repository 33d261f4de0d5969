-- What the programs of cases print, byte for byte: a record as the paper writes it, and a verdict.
use Rattle.std.specs.Prelude.{◌∷◌, Ok, Err}
use Rattle.rules.specs.Words.{ℕ, List, [], map, get_or}
use Rattle.rules.specs.Refusals.{Verdict, told}
use Rattle.rules.specs.Record.{Rec}
use Rattle.print.specs.Text.{ascii, filled}
use Rattle.words.specs.Text.{instruction}

-- The column "Written" of the paper's table for the kinds 5 to 16, and its words for 17 to 19, with x and y where the fields stand.
abbrev pub forms : List (List ℕ)
forms =
    ascii "[x]" ∷ ascii "##[x]" ∷ ascii "##[x][y]"
    ∷ ascii "+ax{" ∷ ascii "-ax{" ∷ ascii "}{" ∷ ascii "}"
    ∷ ascii "+ax{*" ∷ ascii "-ax{*" ∷ ascii "*}"
    ∷ ascii "R##x" ∷ ascii "##R"
    ∷ ascii "forward x" ∷ ascii "backward x" ∷ ascii "stop" ∷ []

abbrev pub rows : ℕ → ℕ → List (List ℕ)
rows x y = map (λ form. filled form x y) forms

-- Kinds 1 to 4 stand in a base too, and are written as in a listing. A kind that no notation has is written by its number.
unfoldable pub written : Rec → List ℕ
written r =
    let base = instruction r in
    let none = filled (ascii "kind x") r.kind 0 in
    get_or (none ∷ base ∷ base ∷ base ∷ base ∷ rows r.x r.y) r.kind none

-- What a check, a conversion or a translation answers, as a line.
unfoldable pub answer : Verdict → List ℕ
answer (Ok n) = filled (ascii "accepted x\n") n 0
answer (Err r) = filled (ascii "refused x y\n") (told r).number (told r).place
