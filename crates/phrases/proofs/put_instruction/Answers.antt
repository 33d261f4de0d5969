use mathlib.Core.Path.{ap, ◌∙◌}
use native.Mathlib.Omega.{arith}
use Rattle.text.specs.Forms.{signs_of}
use Rattle.phrases.proofs.Signs.{signs_none, signs_turn, signs_end}
use Rattle.phrases.proofs.put_instruction.Goals as goal

pub loop-p-init : goal.loop-p-init
loop-p-init c = signs_none _ _ _

pub loop-p-preserved : goal.loop-p-preserved
loop-p-preserved c = signs_turn _ _ _ _ c.loop-p.invariant c.loop-p-test.true c.put_sign-at.ensures

pub returns : goal.returns
returns c = signs_end _ _ _ _ c.loop-p.invariant (c.signs_of-form.ensures ∙ ap signs_of c.form_of.ensures) (omega arith)
