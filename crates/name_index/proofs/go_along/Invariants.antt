use mathlib.Core.Path.{◌≡◌}
use Prim.Native.Nat.{◌-◌}
use lib.ListN.{length}
use Rattle.text.specs.Names.{entries}
use Rattle.name_index.specs.Index.{along}
use Rattle.name_index.proofs.go_along.Given as goal

abbrev pub invariant-loop : goal.invariant-loop
invariant-loop v = record {
  many : length (entries v.l) ≡ v.count;
  left : along (length (entries v.l)) (entries v.l) v.next v.name v.from ≡ along (v.count - v.counter) (entries v.l) v.next v.name v.e;
}
