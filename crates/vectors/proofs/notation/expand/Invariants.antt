use Rattle.std.proofs.Common.{◌≤◌, length}
use Rattle.vectors.proofs.notation.expand.Given as goal

abbrev pub invariant-loop-record : goal.invariant-loop-record
invariant-loop-record l = l.at ≤ length l.out
