use mathlib.Core.Path.{◌≡◌}
use Rattle.text.specs.Names.{entries}
use Rattle.name_index.specs.Index.{entered, both}
use Rattle.name_index.proofs.fill_index.Given as goal

abbrev pub invariant-loop-e : goal.invariant-loop-e
invariant-loop-e v = entered (entries v.l) v.count (both v.initial.first v.initial.next) ≡ entered (entries v.l) v.e (both v.first v.next)
