use mathlib.Core.Path.{sym, ◌∙◌}
use native.Mathlib.Omega.{arith}
use Rattle.names.proofs.Entries.{name_out, name_at_lem}
use Rattle.names.proofs.name_of.Goals as goal

pub returns-then-l-k : goal.returns-then-l-k
returns-then-l-k c = let a = c.args in sym (name_out a.l.now a.e _ (omega arith) c.if-l-k.true)

pub returns-else-l-k : goal.returns-else-l-k
returns-else-l-k c = let a = c.args in c.name_at.ensures ∙ sym (name_at_lem a.l.now a.e _ (omega arith) c.if-l-k.false)
