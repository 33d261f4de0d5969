use Rattle.print.proofs.Forms.{form_none, form_turn}
use Rattle.print.proofs.put_form.Goals as goal

pub loop-p-init : goal.loop-p-init
loop-p-init c = form_none _ _ _

pub loop-p-preserved : goal.loop-p-preserved
loop-p-preserved c = form_turn _ _ _ _ c.loop-p.invariant c.loop-p-test.true c.put_sign-at.ensures
