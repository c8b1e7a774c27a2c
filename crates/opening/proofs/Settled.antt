-- The settled instances, computed.
use mathlib.Core.Path.{refl}
use mathlib.Core.Logic.{inl}
use native.Mathlib.Omega.{arith}
use Rattle.model.specs.Field.{set_field}
use Rattle.model.specs.Event.{head_of, value_of, answer_of, answers_of, words, stored}
use Rattle.model.specs.Tally.{plus, tally_event, tally_of}
use Rattle.model.specs.Steps.{then, change}
use Rattle.model.specs.Run.{entered, answered, run}
use Rattle.model.specs.State.{room_of, ran, onward, advance, called}
use Rattle.model.proofs.Called.{refusal_not_met}
use Rattle.clock.specs.Candidate.{factor_at}
use Rattle.clock.specs.Rank.{rank_by, lowest_by, chosen_by}
use Rattle.clock.specs.Clocked.{clocked}
use Rattle.configure.specs.Steps.{enable_module_clock, clock_divider, controller_clock, controller_on}
use Rattle.configure.specs.Steps.{chip_select, transfer_format, transfer_config, bus_mode}
use Rattle.configure.specs.Steps.{configure_work_mode, register_steps, fifo_steps}
use Rattle.opening.specs.Steps.{opening_steps, release_steps}
use Rattle.opening.specs.Call.{opening_refusal, steps_of, opens, releases}
use Rattle.opening.specs.Settled.{end_of, log_of, released_log, Settled, HypothesesMet}

pub settled : Settled
unfolding end_of log_of released_log set_field head_of value_of answer_of answers_of words stored plus tally_event
    tally_of then change entered answered run room_of ran onward advance called factor_at rank_by lowest_by chosen_by
    clocked enable_module_clock clock_divider controller_clock controller_on chip_select transfer_format
    transfer_config bus_mode configure_work_mode register_steps fifo_steps opening_steps release_steps opening_refusal
    steps_of opens releases
settled =
    record {
      default_log = refl;
      odd_log = refl;
      default = refl;
      no_chip_select = refl;
      three_wire_lem = refl;
      slowest = refl;
      last_clock = refl;
      full = refl;
      dry = refl;
      no_room = refl;
      no_answers = refl;
      all_wrong = refl;
      instance_wrong = refl;
      qpi_wrong = refl;
      core_wrong = refl;
      clock_wrong = refl;
      limit_wrong = refl;
      release = refl;
      release_above = refl;
    }

pub hypotheses_met : HypothesesMet
unfolding set_field head_of value_of answer_of answers_of words stored plus tally_event tally_of then change entered
    answered run room_of ran onward advance called factor_at rank_by lowest_by chosen_by clocked enable_module_clock
    clock_divider controller_clock controller_on chip_select transfer_format transfer_config bus_mode
    configure_work_mode register_steps fifo_steps opening_steps release_steps opening_refusal steps_of opens releases
hypotheses_met =
    record {
      opened = inl refl;
      released = inl refl;
      refused = λ h. omega (arith, h);
      refused_by = refl;
      not_met = refusal_not_met 4 (omega arith) (omega arith);
    }
