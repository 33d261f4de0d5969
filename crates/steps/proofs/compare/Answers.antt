use Rattle.steps.proofs.Steps.{compares}
use Rattle.steps.proofs.compare.Goals as goal

pub returns : goal.returns
returns c = λ n replies asked log. rw (c.led.ensures, c.top_is.ensures) (compares n _ replies asked log _ _ _)
