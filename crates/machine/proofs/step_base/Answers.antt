use native.Mathlib.Omega.{arith}
use Rattle.rules.specs.declared.Notation.TheVariants.{Base}
use Rattle.rules.specs.Checks.{record_checks}
use Rattle.rules.specs.Answers.{check_records, step_base}
use Rattle.machine.proofs.Checking.{step-refused, step-called, replies-accepted, state_accepted, base_right}
use Rattle.machine.proofs.step_base.Goals as goal

pub drive-requires : goal.drive-requires
drive-requires c =
    let z = state_accepted _ c.with_state.ensures c.in-Ok.is in
    let h = base_right _ c.check_records.ensures (replies-accepted _ c.with_replies.ensures z.0) in
    record { s_bound = h.1; by_index = λ j e l. h.2 j e }

pub returns-in-Err : goal.returns-in-Err
unfolding step_base check_records
returns-in-Err c =
    step-refused (record_checks Base _) _ _ _ _ _ _ c.check_records.ensures c.with_replies.ensures c.with_state.ensures _ _ _ c.in-Err.is c.turned_away.ensures

pub returns-in-Ok : goal.returns-in-Ok
unfolding step_base check_records
returns-in-Ok c =
    let z = state_accepted _ c.with_state.ensures c.in-Ok.is in
    let h = base_right _ c.check_records.ensures (replies-accepted _ c.with_replies.ensures z.0) in
    step-called (record_checks Base _) _ _ _ _ _ _ c.check_records.ensures c.with_replies.ensures c.with_state.ensures _ _ _ c.in-Ok.is (omega (arith, z.1, h.0)) _ c.drive.ensures
