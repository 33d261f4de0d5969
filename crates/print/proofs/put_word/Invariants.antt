-- After i turns the first i bytes of the word are printed.
use Rattle.print.proofs.Printing.{Copied}
use Rattle.print.proofs.put_word.Given as goal

abbrev pub invariant-loop-i : goal.invariant-loop-i
invariant-loop-i l = Copied l.word l.initial.text l.text l.i
