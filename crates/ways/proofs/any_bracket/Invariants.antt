-- None of the records before k is one.
use Prim.Native.Nat.{ℕ, suc, ◌≤◌, ◌<◌}
use Rattle.ways.specs.Ways.{Plain}
use Rattle.ways.proofs.any_bracket.Given as goal

abbrev pub invariant-loop-k : goal.invariant-loop-k
invariant-loop-k l = (j : ℕ) → l.from ≤ j → j < l.k → Plain l.s (suc j)
