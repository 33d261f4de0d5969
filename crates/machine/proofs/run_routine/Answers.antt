use native.Mathlib.Omega.{arith}
use Rattle.rules.specs.Answers.{routine_checks, check_routine, run_routine}
use Rattle.stack.proofs.Moves.{named}
use Rattle.machine.proofs.Tables.{ways_right}
use Rattle.machine.proofs.Checking.{run-refused, run-called, replies-accepted, few_routine}
use Rattle.machine.proofs.run_routine.Goals as goal

pub drive-requires : goal.drive-requires
drive-requires c =
    let h = few_routine _ c.check_routine.ensures (replies-accepted _ c.with_replies.ensures c.in-Ok.is) in
    record { s_bound = omega (arith, h.1); by_index = λ j e l. let n = named _ j e in ways_right _ 0 _ h.1 c.fill_ways.ensures j e (omega (arith, n.0)) (omega (arith, n.1, h.0)) }

pub returns-in-Err : goal.returns-in-Err
unfolding run_routine check_routine
returns-in-Err c =
    run-refused (routine_checks _) _ _ _ _ c.check_routine.ensures c.with_replies.ensures _ _ _ _ _ c.in-Err.is c.fresh_at.ensures c.turned_away.ensures

pub returns-in-Ok : goal.returns-in-Ok
unfolding run_routine check_routine
returns-in-Ok c =
    run-called (routine_checks _) _ _ _ _ c.check_routine.ensures c.with_replies.ensures _ _ _ _ _ c.in-Ok.is c.fresh_at-in-Ok.ensures _ c.drive.ensures
