-- Calls that leave QPI: the law of modes and quad calls, at the log.
use mathlib.Core.Path.{refl}
use Rattle.model.specs.Field.{get_field, set_field}
use Rattle.model.specs.Event.{head_of, value_of, answer_of, answers_of, words, stored}
use Rattle.model.specs.Tally.{plus, poll_tally, tally_event, tally_of}
use Rattle.model.specs.Steps.{then, finally, change, wait_for}
use Rattle.model.specs.Run.{entered, answered, poll, run}
use Rattle.model.specs.State.{room_of, ran, onward, advance, called}
use Rattle.model.proofs.Written.{done_call_leaves}
use Rattle.qspi.specs.Phases.{tx_phase}
use Rattle.mode.specs.Mode.{lines, mode_changes, work_mode_steps}
use Rattle.mode.proofs.Leaves.{mode_leaves}
use Rattle.quad.specs.Quad.{quad_mode, standard_mode, quad_start, quad_steps}
use Rattle.quad.proofs.Leaves.{quad_leaves}
use Rattle.bus.specs.Calls.Call.{write, read, transfer, transfer_in_place, flush, set_work_mode, read_quad, write_quad}
use Rattle.bus.specs.Calls.{steps_of, lengths_of, too_long, refusal, outcome}
use Rattle.bus.specs.Leaves.{CallsLeaveQpi, LeavesMet}

pub calls_leave_qpi : CallsLeaveQpi
unfolding outcome steps_of
calls_leave_qpi (write bytes) h limit = absurd h
calls_leave_qpi (read n) h limit = absurd h
calls_leave_qpi (transfer bytes n) h limit = absurd h
calls_leave_qpi (transfer_in_place n) h limit = absurd h
calls_leave_qpi flush h limit = absurd h
calls_leave_qpi (set_work_mode qpi mode) h limit =
    done_call_leaves 0x038 31 1 0 (work_mode_steps qpi mode) (mode_leaves qpi mode h _) _ limit
calls_leave_qpi (read_quad rate command tclqv margin n) h limit =
    done_call_leaves 0x038 31 1 0 (steps_of (read_quad rate command tclqv margin n)) (quad_leaves _ _ _) _ limit
calls_leave_qpi (write_quad command bytes) h limit =
    done_call_leaves 0x038 31 1 0 (steps_of (write_quad command bytes)) (quad_leaves _ _ _) _ limit

pub leaves_met : LeavesMet
unfolding get_field set_field head_of value_of answer_of answers_of words stored plus poll_tally tally_event tally_of
    then finally change wait_for entered answered poll run room_of ran onward advance called lines mode_changes
    work_mode_steps tx_phase quad_mode standard_mode quad_start quad_steps steps_of lengths_of too_long refusal outcome
leaves_met = record { mode = λ e. cc; mode_ends = refl; quad_ends = refl }
