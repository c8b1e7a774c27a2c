-- The instances of what the laws ask for, and the fields that matter in each kind, computed.
use mathlib.Core.Path.{refl}
use mathlib.Core.Logic.{inl}
use native.Mathlib.Omega.{arith}
use Rattle.model.specs.Field.{get_field, set_field}
use Rattle.model.specs.Event.{head_of, value_of, answer_of, answers_of, receive, received, words, stored}
use Rattle.model.specs.Tally.{plus, poll_tally, tally_event, tally_of}
use Rattle.model.specs.Steps.{then, finally, change, wait_for}
use Rattle.model.specs.Run.{entered, answered, poll, run}
use Rattle.model.specs.State.{room_of, ran, onward, advance, called}
use Rattle.model.proofs.Called.{refusal_not_met}
use Rattle.qspi.specs.Phases.{reset_fifos, program_transfer, start_transfer, begin_transfer}
use Rattle.qspi.specs.Phases.{moved, moved_all, paced, gots, tx_phase, rx_phase}
use Rattle.mode.specs.Mode.{lines, qpi_mode, mode_changes, work_mode_steps}
use Rattle.transfer.specs.Transfer.{transfer_steps, part_steps, parts, in_place_steps}
use Rattle.windows.specs.Windows.{framed, quad_mode, standard_mode, quad_start, quad_steps, window}
use Rattle.windows.specs.Windows.{write_window, transfer_windows, read_quad_windows, write_quad_windows}
use Rattle.records.specs.Rules.{cycles}
use Rattle.records.specs.Check.{out_of_range, extents_fault, windows_fault, record_fault, records_in, along, checked}
use Rattle.chain.specs.Chain.{record_steps, chain_steps}
use Rattle.chain.specs.Transaction.{refusal, outcome}
use Rattle.chain.specs.Laws.{UsedFields, HypothesesMet}

computed : HypothesesMet × UsedFields
unfolding get_field set_field head_of value_of answer_of answers_of receive received words stored plus poll_tally
    tally_event tally_of then finally change wait_for entered answered poll run room_of ran onward advance called
    reset_fifos program_transfer start_transfer begin_transfer moved moved_all paced gots tx_phase rx_phase lines
    qpi_mode mode_changes work_mode_steps framed quad_mode standard_mode quad_start quad_steps window read_quad_windows
    write_quad_windows out_of_range extents_fault windows_fault record_fault records_in along checked record_steps
    chain_steps refusal outcome write_window transfer_windows transfer_steps in_place_steps parts part_steps cycles
computed = (
  record {
    ended = inl refl;
    unready = omega arith;
    late = refl;
    unsupported = refl;
    received = refl;
    refused = λ h. omega (arith, h);
    not_met = refusal_not_met 7 (omega arith) (omega arith);
    accepted = refl;
    records = refl;
  },
  refl,
)

pub hypotheses_met : HypothesesMet
hypotheses_met = computed.0

pub used_fields : UsedFields
used_fields = computed.1
