use Rattle.print.proofs.Printing.{print_more}
use Rattle.lines.proofs.Lines.{listing_is}
use Rattle.lines.proofs.put_listing.Goals as goal

pub returns : goal.returns
returns c = rw (listing_is _) (print_more c.put_form-at.ensures c.put_lines.ensures)
