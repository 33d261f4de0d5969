-- The signs passed are written.
use lib.ListN.{take}
use Rattle.text.specs.Names.{entries}
use Rattle.text.specs.Writing.{written_signs}
use Rattle.print.specs.Printing.{Printed}
use Rattle.phrases.proofs.put_instruction.Given as goal

abbrev pub invariant-loop-p : goal.invariant-loop-p
invariant-loop-p l = Printed (written_signs (entries l.names) l.r (take l.p-index l.form)) l.initial.text l.text l.at
