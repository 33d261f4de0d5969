-- The length so far and what the records left add make the whole, so that none of the sums is above it.
use mathlib.Core.Path.{◌≡◌}
use Prim.Native.Nat.{◌+◌}
use Rattle.growth.specs.Length.{base_length}
use Rattle.growth.proofs.Lengths.{added_from}
use Rattle.growth.proofs.base_count.Given as goal

abbrev pub invariant-loop-k : goal.invariant-loop-k
invariant-loop-k l = base_length l.s ≡ l.length + added_from l.s l.k
