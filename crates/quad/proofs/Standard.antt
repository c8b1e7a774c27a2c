-- What the steps of a quad call come to, by how its parts end.
use mathlib.Core.Path.{◌≡◌, refl, ◌∙◌}
use mathlib.Core.Bool.{false}
use mathlib.Core.List.{List}
use mathlib.Core.Logic.{◌⊎◌, inl, inr, ⊎_elim}
use Prim.Native.Nat.{ℕ, ◌<◌}
use native.Mathlib.Omega.{arith}
use borrow.Author.Tests.{ne_eqb}
use Rattle.model.specs.Field.{get_field, set_field}
use Rattle.model.specs.Event.{answer_of, answers_of, head_of, value_of, receive, words, stored}
use Rattle.model.specs.Tally.{plus, poll_tally, tally_event, tally_of}
use Rattle.model.specs.Steps.{Steps, then, finally, change, wait_for}
use Rattle.model.specs.Run.{entered, answered, poll, run}
use Rattle.model.specs.State.{State, room_of, ran, onward, advance}
use Rattle.model.specs.Ends.{Met}
use Rattle.model.proofs.Advance.{starts, skipped, advance_then}
use Rattle.model.proofs.Ends.{every_run_ends}
use Rattle.model.proofs.Finally.{stops_at_once, tries_on}
use Rattle.model.proofs.Supported.{supported_never_2}
use Rattle.qspi.specs.Phases.{reset_fifos, program_transfer, start_transfer, begin_transfer}
use Rattle.qspi.specs.Phases.{moved, paced, gots, tx_phase, rx_phase}
use Rattle.mode.specs.Mode.{lines, mode_changes, work_mode_steps}
use Rattle.quad.specs.Quad.{quad_mode, standard_mode, quad_start, quad_steps}
use Rattle.quad.specs.Standard.{StopsBefore, Fails, StillTried, StandardStillTried, HypothesesMet}
use Rattle.quad.proofs.Quad.{standard_supported, standard_begins}

pub stops_before : StopsBefore
unfolding quad_steps
stops_before command phase l ws st n =
    advance_then (quad_start command) (finally phase standard_mode) l ws st
    ∙ skipped (finally phase standard_mode) l ws _ n

-- met, and not by steps that end unsupported
failed : (n : ℕ) → Met n → (n ≡ 2 → ⊥) → (n ≡ 0) ⊎ Fails n
failed n h i = ⊎_elim inl (⊎_elim (λ e. inr (inl e)) (⊎_elim (λ e. absurd (i e)) (λ e. inr (inr e)))) h

standard_ends : (limit : ℕ) (answers : List ℕ) (st : State) → st.number ≡ 0
    → ((advance standard_mode limit answers st).number ≡ 0) ⊎ Fails (advance standard_mode limit answers st).number
unfolding advance ran
standard_ends l ws st z =
    rw (starts (run standard_mode l false) ws st z)
    (failed _ (every_run_ends standard_mode l _ _ _).number
    (supported_never_2 standard_mode standard_supported l false _ _ _))

fails_ne0 : (n : ℕ) → Fails n → n ≡ 0 → ⊥
fails_ne0 n = ⊎_elim (λ e z. omega arith) (⊎_elim (λ e z. omega arith) (λ e z. omega arith))

after_data : (phase : Steps) (limit : ℕ) → 0 < limit → (answers : List ℕ) (st : State) → st.number ≡ 0
    → StillTried limit answers (advance phase limit answers st) (advance (finally phase standard_mode) limit answers st)
after_data phase l some ws st z =
    let t = tries_on phase standard_mode l standard_supported standard_begins some ws st z in
    record {
      either = standard_ends l ws _ refl;
      fails = λ f. rw (ne_eqb _ _ (fails_ne0 _ f)) at t;
      done = λ d. rw d at t;
      cut = stops_at_once phase standard_mode l ws st z;
    }

pub standard_still_tried : StandardStillTried
unfolding quad_steps
standard_still_tried command phase l ws st some z =
    let s = quad_start command in
    rw (advance_then s phase l ws st, advance_then s (finally phase standard_mode) l ws st)
    (after_data phase l some ws _ z)

pub hypotheses_met : HypothesesMet
unfolding get_field set_field head_of value_of answer_of answers_of receive words stored plus poll_tally tally_event
    tally_of then finally change wait_for entered answered poll run room_of ran onward advance reset_fifos
    program_transfer start_transfer begin_transfer moved paced gots tx_phase rx_phase lines mode_changes
    work_mode_steps quad_mode standard_mode quad_start quad_steps
hypotheses_met = record { stops = refl; goes_on = refl; late = refl; done = refl; fails = refl; cut = refl }
