use mathlib.Core.Path.{sym, ◌∙◌}
use native.Mathlib.Omega.{arith}
use Rattle.names.proofs.Entries.{proper_out, proper-none, proper-some}
use Rattle.names.proofs.is_proper.Goals as goal

pub returns-then-l-k : goal.returns-then-l-k
returns-then-l-k c = let a = c.args in sym (proper_out a.l.now a.e _ (omega arith) c.if-l-k.true)

pub returns-then-n-ne0 : goal.returns-then-n-ne0
returns-then-n-ne0 c = let a = c.args in c.is_zeros.ensures ∙ sym (proper-some a.l.now a.e _ (omega arith) c.if-l-k.false _ c.span_of-n.ensures c.if-n-ne0.true)

pub returns-else-n-ne0 : goal.returns-else-n-ne0
returns-else-n-ne0 c = let a = c.args in rw c.if-n-ne0.false (sym (proper-none a.l.now a.e _ (omega arith) c.if-l-k.false (sym c.span_of-n.ensures ∙ c.if-n-ne0.false)))
