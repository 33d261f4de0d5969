use mathlib.Core.Path.{sym, ◌∙◌}
use Rattle.std.proofs.Common.{rules}
use Rattle.shape.proofs.Verdicts.{check_refused, not_long, nesting_refused, label_refused, skip_refused, growth_refused, accepted}
use Rattle.shape.proofs.check.check_routine.Goals as goal

pub returns-in_err-n : goal.returns-in_err-n
returns-in_err-n c = let e = check_refused _ _ (sym c.check_records.ensures ∙ c.in_err-n.was) in search (rules, e)

pub nesting_place-requires : goal.nesting_place-requires
nesting_place-requires c = not_long _ (sym c.check_records.ensures ∙ c.in_ok-n.was)

pub returns-in-Some : goal.returns-in-Some
returns-in-Some c = nesting_refused _ (sym c.check_records.ensures ∙ c.in_ok-n.was) c.nesting_place.ensures c.in-Some.is

pub returns-in-Some-lost_goto : goal.returns-in-Some-lost_goto
returns-in-Some-lost_goto c =
    label_refused _ (sym c.check_records.ensures ∙ c.in_ok-n.was) c.nesting_place.ensures c.in_default.is
    c.lost_goto.ensures c.in-Some-lost_goto.is

pub returns-in-Some-skip_place : goal.returns-in-Some-skip_place
returns-in-Some-skip_place c =
    skip_refused _ (sym c.check_records.ensures ∙ c.in_ok-n.was) c.nesting_place.ensures c.in_default.is c.lost_goto.ensures c.in_default-lost_goto.is
    c.skip_place.ensures c.in-Some-skip_place.is

pub returns-then-base_count-gt4096 : goal.returns-then-base_count-gt4096
returns-then-base_count-gt4096 c =
    growth_refused _ (sym c.check_records.ensures ∙ c.in_ok-n.was) c.nesting_place.ensures c.in_default.is c.lost_goto.ensures c.in_default-lost_goto.is
    c.skip_place.ensures c.in_default-skip_place.is c.base_count.ensures c.if-base_count-gt4096.true

pub returns : goal.returns
returns c =
    accepted _ (sym c.check_records.ensures ∙ c.in_ok-n.was) c.nesting_place.ensures c.in_default.is c.lost_goto.ensures c.in_default-lost_goto.is
    c.skip_place.ensures c.in_default-skip_place.is c.base_count.ensures c.if-base_count-gt4096.false
