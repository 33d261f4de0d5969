use native.Mathlib.Omega.{arith}
use Rattle.print.proofs.Printing.{print_as}
use Rattle.show.proofs.Forms.{base, other, none}
use Rattle.show.proofs.put_written.Goals as goal

pub returns-in-1-to-4 : goal.returns-in-1-to-4
returns-in-1-to-4 c = print_as (base _ (omega arith) (omega arith)) c.put_instruction.ensures

pub returns-in-5-to-19 : goal.returns-in-5-to-19
returns-in-5-to-19 c =
    print_as (other _ (omega arith) (omega arith) c.form_of.ensures c.from.ensures c.from-in-5-to-19.ensures) c.put_form.ensures

pub returns-in_default : goal.returns-in_default
returns-in_default c = print_as (none _ c.from-in_default.ensures (λ h. grind arith)) c.put_form-in_default.ensures
