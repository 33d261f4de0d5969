-- The records behind the first `from` up to number k have their places.
use mathlib.Core.Path.{◌≡◌}
use Prim.Native.Nat.{◌<◌}
use Rattle.ways.proofs.Ways.{Put}
use Rattle.ways.proofs.put_ways.Given as goal

abbrev pub invariant-loop-k : goal.invariant-loop-k
invariant-loop-k l = (l.k-end < l.k → l.k ≡ l.from) × Put l.s l.from l.k l.initial.t l.t
