-- After i turns the lines of the first i records are printed.
use lib.ListN.{take}
use Rattle.rules.specs.Record.{records}
use Rattle.print.specs.Printing.{Printed}
use Rattle.lines.specs.Text.{lines}
use Rattle.lines.proofs.put_lines.Given as goal

abbrev pub invariant-loop-i : goal.invariant-loop-i
invariant-loop-i l = Printed (lines 1 (take l.i (records l.base))) l.initial.text l.text l.at
