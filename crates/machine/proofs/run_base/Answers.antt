use Rattle.rules.specs.declared.Notation.TheVariants.{Base}
use Rattle.rules.specs.Checks.{record_checks}
use Rattle.rules.specs.Answers.{check_records, run_base}
use Rattle.machine.proofs.Checking.{run-refused, run-called, replies-accepted, base_right}
use Rattle.machine.proofs.run_base.Goals as goal

pub drive-requires : goal.drive-requires
drive-requires c =
    let h = base_right _ c.check_records.ensures (replies-accepted _ c.with_replies.ensures c.in-Ok.is) in
    record { s_bound = h.1; by_index = λ j e l. h.2 j e }

pub returns-in-Err : goal.returns-in-Err
unfolding run_base check_records
returns-in-Err c =
    run-refused (record_checks Base _) _ _ _ _ c.check_records.ensures c.with_replies.ensures _ _ _ _ _ c.in-Err.is c.fresh_at.ensures c.turned_away.ensures

pub returns-in-Ok : goal.returns-in-Ok
unfolding run_base check_records
returns-in-Ok c =
    run-called (record_checks Base _) _ _ _ _ c.check_records.ensures c.with_replies.ensures _ _ _ _ _ c.in-Ok.is c.fresh_at-in-Ok.ensures _ c.drive.ensures
