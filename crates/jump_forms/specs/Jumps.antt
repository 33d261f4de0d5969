-- Forms that begin alike: the one that the text follows furthest.
use Rattle.rules.specs.Words.{ℕ, List}
use Rattle.text.specs.declared.Fit.{Fit}
use Rattle.text.specs.Bytes.{ascii}
use Rattle.text.specs.Forms.{follow, fit_of, further}

-- `##k`, `##[s]`, `##[s][t]` and `##R`, behind the first sign.
abbrev pub of_jumps : List ℕ → ℕ → Fit
of_jumps w at =
    further (further (further (follow 4 (ascii "#k") w at 0 0) (follow 6 (ascii "#[s]") w at 0 0)) (follow 7 (ascii "#[s][t]") w at 0 0)) (follow 16 (ascii "#R") w at 0 0)

-- `a` and `R##k`.
abbrev pub of_calls : List ℕ → ℕ → Fit
of_calls w at = further (fit_of 1 w at) (fit_of 15 w at)
