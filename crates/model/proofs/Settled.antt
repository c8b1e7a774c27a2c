-- The settled instances, computed, and the instances of the laws' hypotheses.
use mathlib.Core.Path.{refl}
use mathlib.Core.List.{[], ◌∷◌}
use mathlib.Core.Logic.{inl}
use native.Mathlib.Omega.{arith}
use Rattle.model.specs.Field.{get_field}
use Rattle.model.specs.Wait.Cause.{start}
use Rattle.model.specs.Event.{head_of, value_of, answer_of, answers_of, receive, words, stored}
use Rattle.model.specs.Tally.{plus, poll_tally, tally_event, tally_of}
use Rattle.model.specs.Steps.{then, finally, wait_for}
use Rattle.model.specs.Steps.End.{done}
use Rattle.model.specs.Run.{entered, answered, poll, run}
use Rattle.model.specs.State.{room_of, ran, onward, advance, called}
use Rattle.model.specs.Frame.Inside.{ends, gets}
use Rattle.model.specs.Own.{own, Copied}
use Rattle.model.specs.Own.Copied.{sends}
use Rattle.model.specs.Written.{rewritten, last_written}
use Rattle.model.specs.Settled.{end_of, fetched, sent_after, Settled, HypothesesMet}
use Rattle.model.proofs.Called.{refusal_not_met}
use Rattle.model.proofs.Refusable.{limited_steady}
use Rattle.model.proofs.Polls.{wait_bounded}
use Rattle.model.proofs.Supported.{wait_supported}

pub settled : Settled
unfolding end_of fetched sent_after own rewritten last_written get_field head_of value_of answer_of answers_of receive
    words stored plus poll_tally tally_event tally_of then finally wait_for entered answered poll run room_of ran
    onward advance
settled =
    record {
      full = refl;
      dry = refl;
      full_on_the_way = refl;
      unsupported_full = refl;
      tried = refl;
      tried_full = refl;
      tried_dry = refl;
      tried_late = refl;
      fetched_memory = refl;
      fetched_log = refl;
      sent_after_log = refl;
      last = refl;
    }

pub hypotheses_met : HypothesesMet
unfolding get_field plus poll_tally tally_event tally_of wait_for answered poll run room_of ran onward advance called
hypotheses_met =
    record {
      limit = (wait_for start, 3, 3, 0x80000000 ∷ 0x80000000 ∷ 0 ∷ [], [], inl refl, omega arith);
      waits = wait_bounded start;
      steady = limited_steady 6 (wait_for start) (λ h. omega (arith, h));
      supported = wait_supported start;
      reads = tt;
      late = refl;
      full = refl;
      dry = refl;
      refused = refusal_not_met 6 (omega arith) (omega arith);
      inside = gets {i = 2} {j = 1} refl (omega arith) (ends done);
      copied = sends 1 (Copied.ends done);
    }
