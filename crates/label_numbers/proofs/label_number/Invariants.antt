use mathlib.Core.Path.{◌≡◌}
use mathlib.Core.List.{map}
use Prim.Native.Nat.{◌+◌}
use lib.ListN.{drop}
use Rattle.text.specs.Names.{name_at, place_from, place_of}
use Rattle.label_numbers.specs.Labels.{labels_of}
use Rattle.label_numbers.proofs.label_number.Given as goal

-- what is left to look at
abbrev pub invariant-loop-i : goal.invariant-loop-i
invariant-loop-i l = place_of l.name (labels_of l.s l.firsts) ≡ place_from (l.i + 1) l.name (map (name_at l.s) (drop l.i l.firsts))
