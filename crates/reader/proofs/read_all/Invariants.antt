use mathlib.Core.Path.{◌≡◌}
use mathlib.Core.List.{List}
use Prim.Native.Nat.{◌-◌, ◌<◌}
use lib.ListN.{length, take}
use Rattle.rules.specs.Record.{Rec}
use Rattle.text.specs.Names.{entries}
use Rattle.reader.specs.Pages.{Kept}
use Rattle.reader.proofs.Loop.{Going}
use Rattle.reader.proofs.read_all.Given as goal

abbrev pub invariant-loop-record : goal.invariant-loop-record
invariant-loop-record v =
    (rs : List Rec) × Going v.s (entries v.l) v.at v.n (take v.labels.count v.labels.firsts) rs × Kept rs v.initial.page v.page × (length v.page ≡ length v.initial.page) × (length v.s < 18446744073709551615)

abbrev pub decreases-loop-record : goal.decreases-loop-record
decreases-loop-record l = length l.s - l.at
