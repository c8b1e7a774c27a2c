-- The two quad reads, computed.
use mathlib.Core.Path.{refl}
use Rattle.model.specs.Field.{get_field, set_field}
use Rattle.model.specs.Event.{head_of, value_of, answer_of, answers_of, receive, words, stored}
use Rattle.model.specs.Tally.{plus, poll_tally, tally_event, tally_of}
use Rattle.model.specs.Steps.{then, finally, change, wait_for}
use Rattle.model.specs.Run.{entered, answered, poll, run}
use Rattle.model.specs.State.{room_of, ran, onward, advance, called}
use Rattle.qspi.specs.Phases.{reset_fifos, program_transfer, start_transfer, begin_transfer}
use Rattle.qspi.specs.Phases.{moved, paced, gots, tx_phase, rx_phase}
use Rattle.mode.specs.Mode.{lines, mode_changes, work_mode_steps}
use Rattle.quad.specs.Quad.{framed, quad_mode, standard_mode, quad_start, quad_steps}
use Rattle.bus.specs.Calls.{steps_of, lengths_of, too_long, refusal, outcome}
use Rattle.recount.specs.Longest.{cut_at, LongestNotInWords}

pub longest_not_in_words : LongestNotInWords
unfolding cut_at get_field set_field head_of value_of answer_of answers_of receive words stored plus poll_tally
    tally_event tally_of then finally change wait_for entered answered poll run room_of ran onward advance called
    reset_fifos program_transfer start_transfer begin_transfer moved paced gots tx_phase rx_phase lines mode_changes
    work_mode_steps framed quad_mode standard_mode quad_start quad_steps steps_of lengths_of too_long refusal outcome
longest_not_in_words =
    record {
      number = (refl, refl);
      log = refl;
      entries = (refl, refl);
      taken = (refl, refl);
      polls = (refl, refl);
      longest = (refl, refl);
    }
