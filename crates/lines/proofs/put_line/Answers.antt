use Rattle.print.specs.Text.{filled_sign, filled}
use Rattle.print.proofs.Printing.{print_more}
use Rattle.lines.specs.Text.{line}
use Rattle.lines.proofs.put_line.Goals as goal

pub returns : goal.returns
unfolding line filled filled_sign
returns c = print_more (print_more c.put_form-at.ensures c.put_instruction-at.ensures) c.put_word.ensures
