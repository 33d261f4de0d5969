-- The signs passed are printed.
use lib.ListN.{take}
use Rattle.print.specs.Text.{filled}
use Rattle.print.specs.Printing.{Printed}
use Rattle.print.proofs.put_form.Given as goal

abbrev pub invariant-loop-p : goal.invariant-loop-p
invariant-loop-p l = Printed (filled (take l.p-index l.form) l.x l.y) l.initial.text l.text l.at
