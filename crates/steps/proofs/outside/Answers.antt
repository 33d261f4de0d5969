use Rattle.steps.proofs.Steps.{no-reply, log-full, heard_yes, heard_no}
use Rattle.steps.proofs.outside.Goals as goal

pub returns-then-replies-k : goal.returns-then-replies-k
returns-then-replies-k c = λ n s. no-reply n _ _ _ s _ _ _ c.if-replies-k.true

pub returns-then-log-k : goal.returns-then-log-k
returns-then-log-k c = λ n s. log-full n _ _ _ s _ _ _ c.if-replies-k.false c.if-log-k.true

pub returns-then-replies-k-eq1 : goal.returns-then-replies-k-eq1
returns-then-replies-k-eq1 c = λ n s. rw c.to_le_bytes.ensures (heard_yes n _ _ _ s _ _ _ c.if-replies-k.false c.if-log-k.false c.if-replies-k-eq1.true)

pub returns-else-replies-k-eq1 : goal.returns-else-replies-k-eq1
returns-else-replies-k-eq1 c = λ n s. rw c.to_le_bytes.ensures (heard_no n _ _ _ s _ _ _ c.if-replies-k.false c.if-log-k.false c.if-replies-k-eq1.false)
