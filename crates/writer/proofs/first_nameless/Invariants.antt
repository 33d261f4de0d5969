use mathlib.Core.Path.{◌≡◌}
use Prim.Native.Nat.{◌+◌}
use lib.ListN.{drop}
use Rattle.rules.specs.Record.{records}
use Rattle.text.specs.Names.{entries}
use Rattle.text.specs.Writing.{nameless_from, nameless}
use Rattle.writer.proofs.first_nameless.Given as goal

abbrev pub invariant-loop-i : goal.invariant-loop-i
invariant-loop-i l = nameless (entries l.names) (records l.routine) ≡ nameless_from (l.i + 1) (entries l.names) (drop l.i (records l.routine))
