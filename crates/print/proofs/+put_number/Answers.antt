use Rattle.print.proofs.Decimal.{decimal_one, decimal_more}
use Rattle.print.proofs.Printing.{print_more, print_as}
use Rattle.print.proofs.+put_number.Goals as goal

pub returns-then-n-lt10 : goal.returns-then-n-lt10
returns-then-n-lt10 t c = print_as (decimal_one _ c.if-n-lt10.true) c.put_byte.ensures

pub returns : goal.returns
returns t c = print_as (decimal_more _ c.if-n-lt10.false) (print_more c.put_number-at.ensures c.put_byte-2.ensures)
