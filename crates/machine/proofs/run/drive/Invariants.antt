-- The locals come to the whole run, turn by turn.
use Prim.Native.Nat.{◌-◌}
use Rattle.machine.proofs.Running.{Going}
use Rattle.machine.proofs.run.drive.Given as goal

abbrev pub invariant-loop-stack : goal.invariant-loop-stack
invariant-loop-stack l = Going l.s l.replies l.budget l.initial.at l.initial.stack l.initial.log l.log l.at l.stack l.asked l.steps

abbrev pub decreases-loop-stack : goal.decreases-loop-stack
decreases-loop-stack l = l.budget - l.steps
