-- What is found from the start is what is found from here on.
use mathlib.Core.Path.{◌≡◌}
use Rattle.rules.specs.Instruction.{ops}
use Rattle.rules.specs.Labels.{label_after}
use Rattle.labels.proofs.Targets.{after}
use Rattle.labels.proofs.label_after.Given as goal

abbrev pub invariant-loop-k : goal.invariant-loop-k
invariant-loop-k l = label_after (ops l.s) l.i l.x ≡ after l.s l.x l.k
