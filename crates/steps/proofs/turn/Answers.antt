use Rattle.steps.specs.Steps.{done}
use Rattle.steps.proofs.turn.Goals as goal

pub returns-in-Leap : goal.returns-in-Leap
unfolding done
returns-in-Leap c = rw c.in-Leap.is
