use mathlib.Core.Path.{refl, sym}
use Rattle.places.proofs.Writing.{fit_one, fit_more}
use Rattle.places.proofs.put_pair.Goals as goal

pub returns : goal.returns
returns c = fit_more (fit_one refl c.put_record-at.ensures) (fit_one (sym c.jump.ensures) c.put_record.ensures)
