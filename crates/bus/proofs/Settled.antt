-- The settled instances, computed.
use mathlib.Core.Path.{refl}
use native.Mathlib.Omega.{arith}
use Rattle.model.specs.Field.{get_field, set_field}
use Rattle.model.specs.Event.{head_of, value_of, answer_of, answers_of, receive, words, stored}
use Rattle.model.specs.Tally.{plus, poll_tally, tally_event, tally_of}
use Rattle.model.specs.Steps.{then, finally, change, wait_for}
use Rattle.model.specs.Run.{entered, answered, poll, run}
use Rattle.model.specs.State.{room_of, ran, onward, advance, called}
use Rattle.model.proofs.Called.{refusal_not_met}
use Rattle.qspi.specs.Phases.{reset_fifos, program_transfer, start_transfer, begin_transfer, moved, moved_all, paced, gots, tx_phase, rx_phase}
use Rattle.mode.specs.Mode.{lines, qpi_mode, mode_changes, work_mode_steps}
use Rattle.transfer.specs.Transfer.{transfer_steps, part_steps, parts, in_place_steps}
use Rattle.quad.specs.Quad.{framed, quad_mode, standard_mode, quad_start, quad_steps}
use Rattle.bus.specs.Calls.{steps_of, lengths_of, too_long, refusal, outcome}
use Rattle.bus.specs.Settled.{end_of, Settled, HypothesesMet}

pub settled : Settled
unfolding end_of get_field set_field head_of value_of answer_of answers_of receive words stored plus poll_tally tally_event tally_of then finally change wait_for entered answered
    poll run room_of ran onward advance reset_fifos program_transfer start_transfer begin_transfer moved moved_all paced gots tx_phase rx_phase steps_of lengths_of
    too_long refusal outcome called lines qpi_mode mode_changes work_mode_steps transfer_steps part_steps parts in_place_steps framed quad_mode standard_mode quad_start quad_steps
settled =
    record {
      cut_in_a_change = refl;
      cut_in_start = refl;
      last_poll = refl;
      no_space = refl;
      space_not_empty = refl;
      none_received = refl;
      counts_255_45 = refl;
      empty_write = refl;
      empty_read = refl;
      limit_0 = refl;
      too_long = refl;
      mode_2 = refl;
      mode_full = refl;
      mode_qpi = refl;
      two_parts = refl;
      quad_late = refl;
      quad_late_dry = refl;
      quad_late_full = refl;
      quad_late_twice = refl;
      quad_apart = refl;
      quad_stops = refl;
      quad_empty = refl;
    }

pub hypotheses_met : HypothesesMet
unfolding get_field plus poll_tally tally_event tally_of then wait_for entered answered poll run room_of ran onward advance called steps_of lengths_of too_long refusal
    outcome qpi_mode mode_changes work_mode_steps
hypotheses_met =
    record {
      flushed = refl;
      longest = refl;
      flushed_again = refl;
      unsupported = refl;
      too_long = refl;
      limit_0 = refl;
      refused = refusal_not_met 7 (omega arith) (omega arith);
    }
