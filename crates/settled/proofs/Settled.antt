-- The settled instances hold: one claim, computed by the checker.
use mathlib.Core.Path.{refl}
use Rattle.model.specs.Field.{get_field, set_field}
use Rattle.model.specs.Event.{head_of, value_of, answer_of, answers_of, receive, words, stored}
use Rattle.model.specs.Tally.{plus, poll_tally, tally_event, tally_of}
use Rattle.model.specs.Steps.{then, change, wait_for}
use Rattle.model.specs.Run.{entered, answered, poll, run}
use Rattle.model.specs.State.{room_of, ran, onward, advance, called}
use Rattle.clock.specs.Candidate.{factor_at}
use Rattle.clock.specs.Rank.{rank_by, lowest_by, chosen_by}
use Rattle.qspi.specs.Phases.{reset_fifos, program_transfer, start_transfer, begin_transfer, moved, moved_all, paced, tx_phase}
use Rattle.bus.specs.Calls as calls
use Rattle.records.specs.Check.{out_of_range, extents_fault, windows_fault, record_fault, records_in, along, checked}
use Rattle.windows.specs.Windows.{window, write_window}
use Rattle.chain.specs.Chain.{record_steps, chain_steps}
use Rattle.chain.specs.Transaction as transactions
use Rattle.lines.specs.Text.{entry_line, number, end_line}
use Rattle.sheet.specs.Sheet.{parse}
use Rattle.sheet_run.specs.Run.{sheet_outcome, sheet_state}
use Rattle.sheet_run.specs.Print.{end_state, printed_sheet}
use Rattle.settled.specs.Settled.{Settled}

pub all_settled : Settled
unfolding get_field set_field head_of value_of answer_of answers_of receive words stored plus poll_tally tally_event tally_of then change wait_for entered answered poll
    run room_of ran onward advance called factor_at rank_by lowest_by chosen_by reset_fifos program_transfer start_transfer begin_transfer moved moved_all paced tx_phase
    calls.steps_of calls.lengths_of calls.too_long calls.refusal calls.outcome out_of_range extents_fault windows_fault record_fault records_in along checked window
    write_window record_steps chain_steps transactions.refusal transactions.outcome entry_line number end_line parse sheet_outcome sheet_state end_state printed_sheet
all_settled = refl
