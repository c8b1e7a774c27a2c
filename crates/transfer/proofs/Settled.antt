-- The settled instance, computed.
use mathlib.Core.Path.{refl}
use native.Mathlib.Omega.{arith}
use Rattle.model.specs.Field.{get_field, set_field}
use Rattle.model.specs.Event.{head_of, value_of, answer_of, answers_of, receive, words, stored}
use Rattle.model.specs.Tally.{plus, poll_tally, tally_event, tally_of}
use Rattle.model.specs.Steps.{then, change, wait_for}
use Rattle.model.specs.Run.{entered, answered, poll, run}
use Rattle.model.specs.State.{room_of, ran, onward, advance}
use Rattle.model.specs.Own.{own}
use Rattle.qspi.specs.Phases.{reset_fifos, program_transfer, start_transfer, begin_transfer}
use Rattle.qspi.specs.Phases.{moved, paced, gots, tx_phase, rx_phase}
use Rattle.transfer.specs.Own.{own_part_steps, own_parts, own_in_place_steps}
use Rattle.transfer.specs.Settled.{exchanged, Settled}

pub settled : Settled
unfolding get_field set_field head_of value_of answer_of answers_of receive words stored plus poll_tally tally_event
    tally_of then change wait_for entered answered poll run room_of ran onward advance own reset_fifos program_transfer
    start_transfer begin_transfer moved paced gots tx_phase rx_phase own_part_steps own_parts own_in_place_steps
    exchanged
settled = record { number = refl; entries = refl; sent = refl; memory = refl; inside = omega arith }
