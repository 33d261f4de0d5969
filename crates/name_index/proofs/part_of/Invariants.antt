use mathlib.Core.Path.{◌≡◌}
use Prim.Native.Nat.{◌<◌}
use lib.ListN.{drop}
use Rattle.name_index.specs.Index.{part_from, part_of}
use Rattle.name_index.proofs.part_of.Given as goal

abbrev pub invariant-loop-b : goal.invariant-loop-b
invariant-loop-b l = record { small : l.h < 512; left : part_of l.name ≡ part_from (drop l.b-index l.name) l.h }
