-- After i turns the instructions of the first i records are written.
use Rattle.text.specs.Names.{entries}
use Rattle.phrases.proofs.Texts.{Texting}
use Rattle.phrases.proofs.put_text.Given as goal

abbrev pub invariant-loop-i : goal.invariant-loop-i
invariant-loop-i l = Texting (entries l.names) l.routine l.initial.text l.text l.at l.i
