-- What is left of form i is the sign p.
use Rattle.std.specs.Prelude.{◌+◌, ◌&&◌}
use Rattle.rules.specs.Words.{ℕ, false, cond, List, length, eqb, ltb}
use Rattle.text.specs.declared.Fit.{Fit}
use Rattle.text.specs.Bytes.{byte_at}
use Rattle.text.specs.Forms.{fit, ending}

abbrev pub last_sign : ℕ → ℕ → List ℕ → ℕ → ℕ → ℕ → Fit
last_sign i p w at x y = cond (ltb at (length w) && eqb (byte_at w at) p) (ending i w (at + 1) x y) (fit i false at x y)
