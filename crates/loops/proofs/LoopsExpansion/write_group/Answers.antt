use mathlib.Core.Path.{sym}
use native.Mathlib.Omega.{arith}
use Rattle.places.specs.Groups.{group, looped}
use Rattle.places.proofs.Partners.{loop_header}
use Rattle.places.proofs.Writing.{fit_one}
use Rattle.loops.proofs.LoopsExpansion.write_group.Goals as goal

pub returns-in-14 : goal.returns-in-14
unfolding group looped
returns-in-14 c = grind (arith, loop_header, fit_one (sym c.jump.ensures) c.put_record.ensures)
