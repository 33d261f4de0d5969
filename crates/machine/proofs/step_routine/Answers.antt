use native.Mathlib.Omega.{arith}
use Rattle.rules.specs.Answers.{routine_checks, check_routine, step_routine}
use Rattle.stack.proofs.Moves.{named}
use Rattle.machine.proofs.Tables.{ways_right}
use Rattle.machine.proofs.Checking.{step-refused, step-called, replies-accepted, state_accepted, few_routine}
use Rattle.machine.proofs.step_routine.Goals as goal

-- The one record that is looked at.
pub drive-requires : goal.drive-requires
drive-requires c =
    let z = state_accepted _ c.with_state.ensures c.in-Ok.is in
    let h = few_routine _ c.check_routine.ensures (replies-accepted _ c.with_replies.ensures z.0) in
    let w = c.fill_ways.ensures in
    let b = c.saturating_sub.ensures in
    record { s_bound = omega (arith, h.1); by_index = λ j e l. let q = l (omega arith) in let n = named _ j e in ways_right _ _ _ h.1 w j e (omega (arith, b, q, n.0)) (omega (arith, q)) }

pub returns-in-Err : goal.returns-in-Err
unfolding step_routine check_routine
returns-in-Err c =
    step-refused (routine_checks _) _ _ _ _ _ _ c.check_routine.ensures c.with_replies.ensures c.with_state.ensures _ _ _ c.in-Err.is c.turned_away.ensures

pub returns-in-Ok : goal.returns-in-Ok
unfolding step_routine check_routine
returns-in-Ok c =
    let e = c.in-Ok.is in
    let z = state_accepted _ c.with_state.ensures e in
    let h = few_routine _ c.check_routine.ensures (replies-accepted _ c.with_replies.ensures z.0) in
    step-called (routine_checks _) _ _ _ _ _ _ c.check_routine.ensures c.with_replies.ensures c.with_state.ensures _ _ _ e (omega (arith, z.1, h.0)) _ c.drive.ensures
