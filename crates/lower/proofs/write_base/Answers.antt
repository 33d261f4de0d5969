-- Each stage reads what the one before it wrote, and has its room.
use mathlib.Core.Path.{refl}
use native.Mathlib.Omega.{arith}
use Rattle.rules.specs.Instruction.{ops}
use Rattle.rules.specs.Labels.{labels}
use Rattle.rules.specs.Calls.{calls}
use Rattle.rules.specs.Loops.{loops}
use Rattle.rules.specs.Convert.{convert}
use Rattle.rules.specs.Answers.{base_records, base_count}
use Rattle.laws.proofs.Length.{converted_length_lem, labels-room, calls-room, loops-room}
use Rattle.places.specs.declared.Stage.TheVariants.{Labels, Calls, Loops, Conditionals}
use Rattle.places.proofs.Writing.{fit_sizes}
use Rattle.lower.proofs.Lowering.{part_length, eights, stage, next, over, ready}
use Rattle.lower.proofs.write_base.Goals as goal

pub returns : goal.returns
unfolding base_records base_count convert
returns c =
    let p = c.requires in
    let L = ops c.args.routine.now in
    let g = ready c.args.routine.now p.routine_value in
    let v1 = stage Labels g.own (labels L) refl (omega (arith, g.short, labels-room L)) (omega (arith, p.routine_in_bounds.1, labels-room L)) c.expand_labels-first.ensures in
    let v2 = next (labels L) v1 g.fits.first Calls (omega (arith, g.short, labels-room L)) (omega (arith, g.short, calls-room L)) (omega (arith, p.routine_in_bounds.0, calls-room L)) c.expand_calls-second.ensures in
    let v3 = next (calls (labels L)) v2 g.fits.second Loops (omega (arith, g.short, calls-room L)) (omega (arith, g.short, loops-room L)) (omega (arith, p.routine_in_bounds.1, loops-room L, fit_sizes c.expand_labels-first.ensures)) c.expand_loops-third.ensures in
    let v4 = next (loops (calls (labels L))) v3 g.fits.third Conditionals (omega (arith, g.short, loops-room L)) (omega (arith, g.short, converted_length_lem L)) (omega (arith, p.routine_in_bounds.0, converted_length_lem L, fit_sizes c.expand_calls-second.ensures)) c.expand_conditionals.ensures in
    over v2 v4 (omega (arith, eights (calls (labels L)) v2, eights (convert L) v4, calls-room L, converted_length_lem L))

pub slice_bounds-expand_calls-end : goal.slice_bounds-expand_calls-end
slice_bounds-expand_calls-end c = omega (arith, fit_sizes c.expand_labels-first.ensures)

pub slice_bounds-expand_calls-end-2 : goal.slice_bounds-expand_calls-end-2
slice_bounds-expand_calls-end-2 c = part_length c.expand_labels-first.ensures

pub slice_bounds-expand_loops-end : goal.slice_bounds-expand_loops-end
slice_bounds-expand_loops-end c = omega (arith, fit_sizes c.expand_calls-second.ensures)

pub slice_bounds-expand_loops-end-2 : goal.slice_bounds-expand_loops-end-2
slice_bounds-expand_loops-end-2 c = part_length c.expand_calls-second.ensures

pub slice_bounds-expand_conditionals-end : goal.slice_bounds-expand_conditionals-end
slice_bounds-expand_conditionals-end c = omega (arith, fit_sizes c.expand_loops-third.ensures)

pub slice_bounds-expand_conditionals-end-2 : goal.slice_bounds-expand_conditionals-end-2
slice_bounds-expand_conditionals-end-2 c = part_length c.expand_loops-third.ensures
