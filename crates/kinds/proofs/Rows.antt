-- Number k of a list is the one at place k - 1, from 0.
use mathlib.Core.Path.{◌≡◌}
use Prim.Native.Nat.{ℕ, zero, suc, ◌-◌, ◌≤◌}
use native.Mathlib.Omega.{arith}
use mathlib.Core.List.{List}
use Rattle.rules.specs.Words.{slice_get}
use Rattle.rules.specs.Numbers.{at}

pub at_behind : {A : Type 0} (L : List A) (k : ℕ) → 1 ≤ k → at L k ≡ slice_get L (k - 1)
unfolding at
at_behind L zero h = absurd (omega arith)
at_behind L (suc k) h = let e : suc k - 1 ≡ k = omega arith in rw e
