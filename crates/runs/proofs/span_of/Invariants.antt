use mathlib.Core.Path.{◌≡◌}
use Prim.Native.Nat.{◌+◌, ◌-◌}
use Rattle.text.specs.Bytes.{span}
use Rattle.runs.proofs.span_of.Given as goal

abbrev pub invariant-loop-i : goal.invariant-loop-i
invariant-loop-i l = span l.c l.s l.at l.n ≡ l.i + span l.c l.s (l.at + l.i) (l.n - l.i)
