use mathlib.Core.Path.{sym}
use Rattle.places.proofs.Writing.{fit_one, fit_more}
use Rattle.calls.proofs.put_link.Goals as goal

pub returns : goal.returns
returns c =
    fit_more
    (fit_more (fit_more (fit_one (sym c.record.ensures) c.put_record-at.ensures) (fit_one (sym c.record-2.ensures) c.put_record-at-2.ensures))
    (fit_one (sym c.jump.ensures) c.put_record-at-3.ensures))
    (fit_one (sym c.record-3.ensures) c.put_record.ensures)
