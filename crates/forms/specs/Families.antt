-- Forms that begin alike, behind their first sign: the one that the text follows furthest.
use Rattle.rules.specs.Words.{ℕ, List}
use Rattle.text.specs.declared.Fit.{Fit}
use Rattle.text.specs.Bytes.{ascii}
use Rattle.text.specs.Forms.{follow, further}

-- `+a`, `+a{` and `+a{*`, or the same with `-`, as forms i, j and k: behind their first sign.
abbrev pub of_tests : ℕ → ℕ → ℕ → List ℕ → ℕ → Fit
of_tests i j k w at = further (further (follow i (ascii "a") w at 0 0) (follow j (ascii "a{") w at 0 0)) (follow k (ascii "a{*") w at 0 0)

-- `}{` and `}`, behind the first sign.
abbrev pub of_ends : List ℕ → ℕ → Fit
of_ends w at = further (follow 10 (ascii "{") w at 0 0) (follow 11 (ascii "") w at 0 0)
