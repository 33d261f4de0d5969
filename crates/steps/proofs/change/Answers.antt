use mathlib.Core.Path.{◌∙◌}
use Rattle.steps.proofs.Steps.{pushes, pops}
use Rattle.steps.proofs.change.Goals.{in-Push, in-Pop}
use Rattle.steps.proofs.change.Goals as goal

pub returns : goal.returns
returns c = λ n replies asked log.
    elim c.match-own.branch [
      | in-Push w ↦ rw (c.led.ensures, w.in-Push.is) (pushes n _ replies asked log _ _ _ (w.handed-is ∙ w.push-handed.ensures))
      | in-Pop w ↦ rw (c.led.ensures, w.in-Pop.is) (pops n _ replies asked log _ _ (w.handed-is ∙ w.pop-handed.ensures))
    ]
