-- One name for all that the definitions unfold: a proof that computes says `unfolding computes`.
use Rattle.rules.specs.Numbers.{at, each, given, or_zero, past, names, move_to}
use Rattle.rules.specs.Table.{rows, relative_rows, row_of}
use Rattle.rules.specs.Instruction.{act_of, written, decode, x_of, y_of, encode, ops, file}
use Rattle.rules.specs.Refusals.{told, when, when_at, or_else, first, verdict_of, verdict}
use Rattle.rules.specs.Checks.{ragged, most, long, listed, kind_fault, in_row, stack_action, has_stack, field_fault, fault, fault_from, record_checks}
use Rattle.rules.specs.Nesting.{bracket, parted, closed, read, lowest, go_on, scan, nesting}
use Rattle.rules.specs.Skip.{added_by, added, adding, plain_test, skip_from, skip, added_all, converted_length, grown}
use Rattle.rules.specs.SecondLevel.{members, seconds, renumber, sent, laid, removed}
use Rattle.rules.specs.Labels.{is_label, label_from, label_after, target, label_behind, target2, missing, lost, lost_from, lost_goto, unlabel, labels}
use Rattle.rules.specs.Calls.{chain, uncall, calls}
use Rattle.rules.specs.Partners.{role_of, role, stop_at, stop_from, end_of, arm_of, opening, is_header, header_up_to, header_of}
use Rattle.rules.specs.Loops.{unloop, loops}
use Rattle.rules.specs.Conditionals.{uncond, conditionals}
use Rattle.rules.specs.Convert.{convert}
use Rattle.rules.specs.Relative.{relative_jump, relative_at, to_relative, absolute_at, to_absolute, far_from, far}
use Rattle.rules.specs.Stack.{full, pushed, without, popped, top, nonempty, equals}
use Rattle.rules.specs.Step.{deed, with_stack, logging, reply, no_reply_left, log_is_full, perform, agree, branch, leaving, does, step_at, step}
use Rattle.rules.specs.Run.{status_number, onward, run, start_of, fresh_mem, runs}
use Rattle.rules.specs.Answers.{routine_checks, short, bad_reply_from, bad_reply, entries_sound, sound, check_records, check_routine, filled, cleared, base_records, base_count, converting, relating, absoluting, ran, turned_away, unless, no_state, running, run_routine, run_base, mem_at, stepping, step_routine, step_base}

unfoldable pub computes : Unit {0}
unfolding at each given or_zero past names move_to rows relative_rows row_of act_of written decode x_of y_of encode ops file told when when_at or_else first verdict_of verdict ragged most long listed kind_fault in_row stack_action has_stack field_fault fault fault_from record_checks bracket parted closed read lowest go_on scan nesting added_by added adding plain_test skip_from skip added_all converted_length grown members seconds renumber sent laid removed is_label label_from label_after target label_behind target2 missing lost lost_from lost_goto unlabel labels chain uncall calls role_of role stop_at stop_from end_of arm_of opening is_header header_up_to header_of unloop loops uncond conditionals convert relative_jump relative_at to_relative absolute_at to_absolute far_from far full pushed without popped top nonempty equals deed with_stack logging reply no_reply_left log_is_full perform agree branch leaving does step_at step status_number onward run start_of fresh_mem runs routine_checks short bad_reply_from bad_reply entries_sound sound check_records check_routine filled cleared base_records base_count converting relating absoluting ran turned_away unless no_state running run_routine run_base mem_at stepping step_routine step_base
computes = tt
