-- The groups of the first i records are written.
use Prim.Native.Nat.{◌+◌}
use Rattle.places.proofs.Groups.{Written}
use Rattle.places.proofs.expansion.write_groups.Given as goal

abbrev pub invariant-loop-i : goal.invariant-loop-i
invariant-loop-i g l = Written g.E.Expansion.stage (g.E.Expansion.given l.stage) l.initial.out l.out l.at (l.i + 1)
