use Rattle.std.proofs.Common.{◌≤◌, length}
use Rattle.vectors.proofs.notation.repeat.Given as goal

abbrev pub invariant-loop : goal.invariant-loop
invariant-loop l = l.at ≤ length l.out
