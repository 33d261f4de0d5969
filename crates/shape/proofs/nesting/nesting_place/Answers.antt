use Rattle.shape.proofs.Bodies.{body_is, whole_shut, whole_fine, whole_misfit, whole_open}
use Rattle.shape.proofs.nesting.nesting_place.Goals as goal

pub returns-then-m-s : goal.returns-then-m-s
returns-then-m-s c = whole_shut _ _ (body_is _ _ _ c.read_body.ensures _ c.in-To.is) c.if-m-s.true

pub returns-else-m-s : goal.returns-else-m-s
returns-else-m-s c = whole_fine _ _ (body_is _ _ _ c.read_body.ensures _ c.in-To.is) c.if-m-s.false

pub returns-in-Misfit : goal.returns-in-Misfit
returns-in-Misfit c = whole_misfit _ _ _ c.read_body.ensures c.in-Misfit.is

pub returns-in-Open : goal.returns-in-Open
returns-in-Open c = whole_open _ _ _ c.read_body.ensures c.in-Open.is
