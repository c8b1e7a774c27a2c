-- Calls that go on from a state, from the laws over trees; and the settled instances, computed.
use mathlib.Core.Path.{◌≡◌, refl}
use mathlib.Core.Bool.{Bool, true, false, cond}
use mathlib.Core.List.{List, [], ◌∷◌}
use mathlib.Core.Logic.{◌⊎◌, inl, inr, ⊎_elim}
use Prim.Native.Nat.{ℕ}
use lib.Dec.{eqb, ltb}
use Rattle.model.specs.Event.{head_of, value_of, answer_of, answers_of, receive, words, stored}
use Rattle.model.specs.Field.{get_field}
use Rattle.model.specs.Tally.{plus, poll_tally, tally_event, tally_of}
use Rattle.model.specs.Steps.{wait_for}
use Rattle.model.specs.Run.{answered, poll, run}
use Rattle.model.specs.State.{room_of, ran, onward, advance}
use Rattle.model.proofs.From.{begun_is_called, ended_stays, from_ends, from_keeps}
use Rattle.bus.specs.Calls.{lengths_of, steps_of, too_long, refusal, outcome, outcome_from}
use Rattle.bus.specs.From.{CallFromBegun, CallStays, CallFromEnds, CallFromKeeps, CallFromMet}

pub call_from_begun : CallFromBegun
unfolding outcome outcome_from
call_from_begun call limit answers log m =
    begun_is_called (refusal limit (lengths_of call)) (steps_of call) limit answers log m

pub call_stays : CallStays
unfolding outcome_from
call_stays call limit answers st = ended_stays (refusal limit (lengths_of call)) (steps_of call) limit answers st

-- a refusal is 6 or 7
length_number : (lengths : List ℕ) → (too_long lengths ≡ 0) ⊎ (too_long lengths ≡ 6)
unfolding too_long
length_number [] = inl refl
length_number (n ∷ ns) = by (ltb 0xFFFFFF n) (length_number ns)
  where
    by : (b : Bool) → (too_long ns ≡ 0) ⊎ (too_long ns ≡ 6)
        → (cond b 6 (too_long ns) ≡ 0) ⊎ (cond b 6 (too_long ns) ≡ 6)
    by true h = inr refl
    by false h = h

refusal_number : (limit : ℕ) (lengths : List ℕ) → (refusal limit lengths ≡ 0 → ⊥)
    → (refusal limit lengths ≡ 6) ⊎ (refusal limit lengths ≡ 7)
unfolding refusal
refusal_number limit lengths i = by (eqb limit 0) (length_number lengths) i
  where
    by : (b : Bool) → (too_long lengths ≡ 0) ⊎ (too_long lengths ≡ 6) → (cond b 7 (too_long lengths) ≡ 0 → ⊥)
        → (cond b 7 (too_long lengths) ≡ 6) ⊎ (cond b 7 (too_long lengths) ≡ 7)
    by true h i = inr refl
    by false (inl h) i = absurd (i h)
    by false (inr h) i = inl h

pub call_from_ends : CallFromEnds
unfolding outcome_from
call_from_ends call limit answers st z =
    let refused = refusal limit (lengths_of call) in
    ⊎_elim
    (λ r. let n = refusal_number limit (lengths_of call) r.0 in inl (rw r.1 (n, refl)))
    (λ r. inr r.1)
    (from_ends refused (steps_of call) limit answers st z)

pub call_from_keeps : CallFromKeeps
unfolding outcome_from
call_from_keeps call limit answers st = from_keeps (refusal limit (lengths_of call)) (steps_of call) limit answers st

pub call_from_met : CallFromMet
unfolding get_field head_of value_of answer_of answers_of receive words stored plus poll_tally tally_event tally_of
    wait_for answered poll run room_of ran onward advance steps_of lengths_of too_long refusal outcome_from
call_from_met = record { goes_on = refl; timeout = refl; refused = refl; ended = refl }
