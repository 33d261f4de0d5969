use mathlib.Core.Path.{sym, ◌∙◌}
use Rattle.text.specs.declared.TextRefusal.TheVariants.{Name}
use Rattle.writer.proofs.Whole.{refuses, passes_on, equally, unchecked, fits, bad_list, nameless-at, all_named}
use Rattle.writer.proofs.write_text.Goals as goal

pub returns-in_err-check_records : goal.returns-in_err-check_records
returns-in_err-check_records c =
    let a = c.args in
    passes_on c.from_residual.result c.from_residual.ensures.1 (unchecked a.routine.now a.names.now a.text.now _ c.in_err-check_records.ensures)

pub returns-then-list_fault : goal.returns-then-list_fault
returns-then-list_fault c =
    let a = c.args in
    refuses (Name 0) (bad_list a.routine.now a.names.now a.text.now c.in_ok-check_records.ensures (sym c.list_fault.ensures ∙ c.if-list_fault.true))

pub show-requires : goal.show-requires
show-requires c = let a = c.args in fits a.routine.now a.names.now a.text.now c.in_ok-check_records.ensures

pub returns-in-Some : goal.returns-in-Some
returns-in-Some c =
    let a = c.args in
    refuses (Name c.in-Some.p) (nameless-at a.routine.now a.names.now a.text.now c.in_ok-check_records.ensures (sym c.list_fault.ensures ∙ c.if-list_fault.false) c.in-Some.p c.in-Some.ensures)

pub returns-in-None : goal.returns-in-None
returns-in-None c =
    let a = c.args in
    equally (all_named a.routine.now a.names.now a.text.now c.in_ok-check_records.ensures (sym c.list_fault.ensures ∙ c.if-list_fault.false) c.in-None.ensures) c.show.ensures
