use mathlib.Core.Path.{◌≡◌}
use Prim.Native.Nat.{◌+◌, ◌-◌, ◌≤◌, ◌<◌}
use lib.ListN.{length}
use Rattle.text.specs.declared.Sort.TheVariants.{Digit}
use Rattle.text.specs.Bytes.{run}
use Rattle.text.specs.Names.{value_of, number_at}
use Rattle.names.proofs.Digits.{tens}
use Rattle.names.proofs.number_at.Given as goal

abbrev pub invariant-loop-i : goal.invariant-loop-i
invariant-loop-i l = (l.v < tens l.i) × (l.at + l.i ≤ length l.s) × (number_at l.s l.at ≡ value_of (run Digit l.s (l.at + l.i) (4 - l.i)) l.v)
