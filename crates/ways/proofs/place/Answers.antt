use mathlib.Core.Path.{ap, ◌∙◌}
use native.Mathlib.Omega.{arith}
use Rattle.rules.specs.Numbers.{past, or_zero}
use Rattle.ways.proofs.Ways.{goto_place, goto2_place, stop_place, loop_place, header_place}
use Rattle.ways.proofs.place.Goals as goal

pub returns-in-6 : goal.returns-in-6
returns-in-6 c = c.place_of.ensures ∙ ap or_zero c.target.ensures ∙ goto_place _ _ c.record_at-kind.ensures c.in-6.is

pub returns-in-7 : goal.returns-in-7
returns-in-7 c = c.place_of-in-7.ensures ∙ ap or_zero c.target2.ensures ∙ goto2_place _ _ c.record_at-kind.ensures c.in-7.is

pub returns-in-8 : goal.returns-in-8
returns-in-8 c = c.past_record.ensures ∙ ap past c.look-in-8.ensures ∙ stop_place _ _ c.record_at-kind.ensures c.requires (omega arith) (omega arith)

pub returns-in-12 : goal.returns-in-12
returns-in-12 c = c.past_record-in-12.ensures ∙ ap past c.look-in-12.ensures ∙ loop_place _ _ c.record_at-kind.ensures c.requires (omega arith) (omega arith)

pub returns-in-14 : goal.returns-in-14
returns-in-14 c = c.from.ensures ∙ c.look.ensures ∙ header_place _ _ c.record_at-kind.ensures c.requires c.in-14.is
