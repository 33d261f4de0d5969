-- Forms that begin alike, behind what they begin with: the one that the text follows furthest.
use Rattle.rules.specs.Words.{ℕ, List}
use Rattle.text.specs.declared.Fit.{Fit}
use Rattle.text.specs.Bytes.{ascii}
use Rattle.text.specs.Forms.{follow, further}

-- `##[s]` and `##[s][t]`, behind the first bracket.
abbrev pub of_gotos : List ℕ → ℕ → Fit
of_gotos w at = further (follow 6 (ascii "s]") w at 0 0) (follow 7 (ascii "s][t]") w at 0 0)
