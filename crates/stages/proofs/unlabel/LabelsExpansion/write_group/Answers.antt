use mathlib.Core.Path.{◌≡◌, refl, ap, ◌∙◌}
use native.Mathlib.Omega.{arith}
use mathlib.Core.List.{[], ◌∷◌}
use Rattle.rules.specs.Instruction.{ops}
use Rattle.laws.proofs.Records.{ops-length}
use Rattle.laws.proofs.Fits.{target_in, target2_in}
use Rattle.rules.specs.Numbers.{or_zero}
use Rattle.places.specs.declared.Stage.TheVariants.{Labels}
use Rattle.places.specs.Groups.{group, labelled}
use Rattle.places.proofs.Places.{there}
use Rattle.places.proofs.Writing.{fit_one, fit_as}
use Rattle.stages.proofs.unlabel.LabelsExpansion.write_group.Goals as goal
use Rattle.stages.proofs.unlabel.LabelsExpansion.write_group.Goals.{in-5, in-6, in-7, in_default}

pub overflow_add-i : goal.overflow_add-i
overflow_add-i c = omega (arith, there _ _ c.record_at-record.ensures (λ z. omega arith))

pub overflow_cast-i : goal.overflow_cast-i
overflow_cast-i c = omega (arith, there _ _ c.record_at-record.ensures (λ z. omega arith))

pub overflow_cast-place_of : goal.overflow_cast-place_of
overflow_cast-place_of c =
    let L = ops c.args.self.now.file.s.now in
    omega (arith, c.place_of.ensures ∙ ap or_zero c.target.ensures, target_in L 4096 (omega (arith, ops-length c.args.self.now.file.s.now)) c.record_at-record.result.x)

pub overflow_cast-place_of-in-7 : goal.overflow_cast-place_of-in-7
overflow_cast-place_of-in-7 c =
    let r = c.record_at-record.result in
    let L = ops c.args.self.now.file.s.now in
    omega (arith, c.place_of-in-7.ensures ∙ ap or_zero c.target2.ensures, target2_in L 4096 (omega (arith, ops-length c.args.self.now.file.s.now)) r.x r.y)

pub returns : goal.returns
unfolding group labelled
returns c =
    let becomes : group Labels c.args.self.now.file.s.now c.args.i ≡ c.match-record.put_record ∷ [] =
    elim c.match-record.branch [
      | in-5 w ↦ grind arith
      | in-6 w ↦ grind (arith, w.place_of.ensures ∙ ap or_zero w.target.ensures)
      | in-7 w ↦ grind (arith, w.place_of-in-7.ensures ∙ ap or_zero w.target2.ensures)
      | in_default w ↦ grind arith
    ]
    in
    fit_as becomes (fit_one refl c.put_record.ensures)
