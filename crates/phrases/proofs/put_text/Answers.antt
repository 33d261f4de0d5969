use Rattle.print.proofs.Printing.{print_more}
use Rattle.phrases.proofs.Texts.{texting, text_turn, text_end}
use Rattle.phrases.proofs.put_text.Goals as goal

pub loop-i-init : goal.loop-i-init
loop-i-init c = texting _ _ _

pub loop-i-preserved : goal.loop-i-preserved
loop-i-preserved c =
    text_turn _ _ _ c.loop-i.invariant _ c.loop-i-test.true c.record_at.ensures
    (print_more (print_more c.loop-i.invariant.wrote c.put_joint-at.ensures) c.put_instruction-at.ensures)

pub returns : goal.returns
returns c = text_end _ _ _ c.loop-i.invariant c.loop-i-test.false
