use mathlib.Core.Path.{◌≡◌}
use Prim.Native.Nat.{ℕ}
use mathlib.Core.List.{◌++◌}
use borrow.Author.Tests.{ne_eqb}
use Rattle.rules.specs.Record.{Rec}
use Rattle.rules.specs.Instruction.{act_of}
use Rattle.print.proofs.Printing.{print_more, print_as}
use Rattle.words.specs.Text.{action, sign, instruction}
use Rattle.words.proofs.put_instruction.Goals as goal

with_sign : (r : Rec) {x y : ℕ} → x ≡ r.x → y ≡ r.y → ¬ (r.kind ≡ 4) → instruction r ≡ sign r.kind ++ action (act_of x y)
unfolding instruction
with_sign r x y h = rw (x, y, ne_eqb r.kind 4 h)

pub returns : goal.returns
returns c =
    print_as (with_sign _ c.from-x.ensures c.from.ensures c.if-r-eq4.false) (print_more c.put_sign-at.ensures c.put_action.ensures)
