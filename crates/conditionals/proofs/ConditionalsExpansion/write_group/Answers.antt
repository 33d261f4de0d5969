use mathlib.Core.Path.{◌≡◌, sym}
use native.Mathlib.Omega.{arith}
use Rattle.records.specs.Reading.{rec_at}
use Rattle.places.specs.Groups.{group, parted}
use Rattle.places.proofs.Partners.{parts_end}
use Rattle.places.proofs.Places.{there}
use Rattle.places.proofs.Writing.{fit_one}
use Rattle.conditionals.proofs.ConditionalsExpansion.write_group.Goals as goal

pub overflow_add-i : goal.overflow_add-i
overflow_add-i c = omega (arith, there _ _ c.record_at-kind.ensures (λ z. omega arith))

pub returns-in-10 : goal.returns-in-10
unfolding group parted
returns-in-10 c =
    let it = c.args.self.now in
    let kind : (rec_at it.file.s.now c.args.i).kind ≡ 10 = cc in
    grind (arith, parts_end _ _ it.stopped kind, fit_one (sym c.jump.ensures) c.put_record.ensures)

pub returns-in-11 : goal.returns-in-11
unfolding group parted
returns-in-11 c = grind (arith, fit_one (sym c.jump-in-11.ensures) c.put_record-in-11.ensures)
