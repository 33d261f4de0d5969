use native.Mathlib.Omega.{arith}
use Rattle.lines.proofs.Refused.{its_text, no_line, its_line}
use Rattle.lines.proofs.refused_line.Goals as goal

pub returns-then-text-length : goal.returns-then-text-length
returns-then-text-length c =
    no_line (its_text _ c.number_of.ensures c.place_of.ensures (omega arith) (omega arith) (omega arith) c.put_form-length.ensures) _ c.if-text-length.true

pub returns : goal.returns
returns c =
    its_line (its_text _ c.number_of.ensures c.place_of.ensures (omega arith) (omega arith) (omega arith) c.put_form-length.ensures) _ c.if-text-length.false
    c.copy_from_slice.ensures.after
