use mathlib.Core.Path.{sym, ◌∙◌}
use Rattle.steps.proofs.Steps.{leaves, stays}
use Rattle.steps.proofs.go_back.Goals as goal

pub returns-in-Some : goal.returns-in-Some
returns-in-Some c = λ replies asked log.
    rw (c.pop.ensures, c.from-in-Some.ensures) (leaves _ _ replies asked log (sym c.top.ensures ∙ c.in-Some.is) (rw c.from.ensures at (sym c.names.ensures ∙ c.if-names.true)))

pub returns-in_default : goal.returns-in_default
returns-in_default c = λ replies asked log. stays _ _ replies asked log (sym c.top.ensures ∙ c.in-Some.is) (rw c.from.ensures at (sym c.names.ensures ∙ c.if-names.false))
