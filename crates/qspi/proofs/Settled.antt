-- The settled instances, computed.
use mathlib.Core.Path.{refl}
use Rattle.model.specs.Field.{get_field, set_field}
use Rattle.model.specs.Event.{receive}
use Rattle.model.specs.Tally.{plus, poll_tally, tally_event, tally_of}
use Rattle.model.specs.Steps.{then, change, wait_for}
use Rattle.model.specs.Run.{entered, answered, poll, run}
use Rattle.qspi.specs.Phases.{reset_fifos, program_transfer, start_transfer, begin_transfer}
use Rattle.qspi.specs.Phases.{moved, paced, gots, tx_phase, rx_phase}
use Rattle.qspi.specs.Settled.{polls_of, Settled}

pub settled : Settled
unfolding get_field set_field receive plus poll_tally tally_event tally_of then change wait_for entered answered poll
    run reset_fifos program_transfer start_transfer begin_transfer moved paced gots tx_phase rx_phase polls_of
settled = record { sent = refl; got = refl; ready = (refl, refl); write_polls = refl; read_polls = refl }
