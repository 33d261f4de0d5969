-- The whole answer is the answer from here on.
use mathlib.Core.Path.{◌≡◌}
use Rattle.rules.specs.Answers.{check_records}
use Rattle.checks.proofs.Faults.{answer_from}
use Rattle.checks.proofs.check_records.Given as goal

abbrev pub invariant-loop-k : goal.invariant-loop-k
invariant-loop-k l = check_records l.notation l.s ≡ answer_from l.notation l.s l.k
