use native.Mathlib.Omega.{arith}
use borrow.Author.Rules.{rules}
use Rattle.reader.proofs.Pages.{keeps, passes}
use Rattle.reader.proofs.keep.Goals as goal

pub returns-then-n-lt512 : goal.returns-then-n-lt512
returns-then-n-lt512 c = let a = c.args in keeps a.n a.r a.page.now (omega arith) (omega arith) c.put_record.ensures (search rules)

pub returns-else-n-lt512 : goal.returns-else-n-lt512
returns-else-n-lt512 c = let a = c.args in passes a.n a.r a.page.now (omega arith)
