-- One entry as a caller makes it: refused by 10 or 11, or noted, with what follows it.
use mathlib.Core.Path.{◌≡◌, refl, ap, ◌∙◌}
use mathlib.Core.List.{List, [], ◌∷◌}
use Prim.Native.Nat.{ℕ, suc, pred, ◌+◌, ◌*◌, ◌/◌, ◌≤◌, ◌<◌}
use native.Mathlib.Omega.{arith}
use native.Mathlib.Nat.{add-zero, add_assoc}
use native.Mathlib.Numerals.{add-one}
use lib.ListN.{length, get_or, set, drop, length-append, length-set, drop_of_length-le}
use lib.Seq.{drop-cons}
use Rattle.model.specs.Event.{Act, Event, head_of, value_of, answer_of, answers_of, receive}
use Rattle.model.specs.Event.Event.{did}
use Rattle.model.specs.Tally.{plus, tally_event, tally_of}
use Rattle.model.specs.Steps.{Steps}
use Rattle.model.specs.Steps.Steps.{act}
use Rattle.model.specs.Run.{Outcome, after, entered, answered, run}
use Rattle.model.specs.State.{State, with_number, room_of, ran, onward, advance}
use Rattle.model.proofs.Trace.{plus_assoc, stored_entry}
use Rattle.model.proofs.Then.{Runs}
use Rattle.model.proofs.Advance.{starts, stopped}

-- the state after one entry
abbrev pub noted : State → Event → State
noted st e =
    record {
      number = st.number;
      entries = st.entries + 1;
      taken = st.taken + length (answer_of e);
      tally = plus st.tally (tally_event e);
      log = set (set st.log (st.entries * 2) (head_of e)) (st.entries * 2 + 1) (value_of e);
      memory = receive st.memory e;
    }

ran_after : (st : State) (e : Event) (o : Outcome) → ran st (after e o) ≡ ran (noted st e) o
unfolding ran answers_of tally_of
ran_after st e o =
    let q : st.entries + suc (length o.trace) ≡ st.entries + 1 + length o.trace = omega arith in
    rw q (simp (length-append, add_assoc, plus_assoc, stored_entry))

room_noted : (st : State) (e : Event) (r : ℕ) → room_of st ≡ suc r → room_of (noted st e) ≡ r
unfolding room_of
room_noted st e r h = simp length-set (omega arith)

-- an entry, and what runs after it
notes : (f : Runs) (e : Event) (answers rest : List ℕ) (st : State) (r : ℕ) → st.number ≡ 0 → room_of st ≡ suc r
    → drop (st.taken + length (answer_of e)) answers ≡ rest → ran st (after e (f r rest (receive st.memory e))) ≡ onward f answers (noted st e)
notes f e ws rest st r z h d = ran_after st e _ ∙ rw (starts f ws (noted st e) z, room_noted st e r h, d) refl

module _ (answers : List ℕ) (st : State) (z : st.number ≡ 0) where
  no_room : length st.log / 2 ≤ st.entries → room_of st ≡ 0
  unfolding room_of
  no_room h = omega arith

  some_room : st.entries < length st.log / 2 → room_of st ≡ suc (pred (room_of st))
  unfolding room_of
  some_room h = omega arith

  -- An access that takes no answer: 10 without room, else its entry and what follows.
  module _ (a : Act) (s : Steps) (limit : ℕ) where
    pub act_full : length st.log / 2 ≤ st.entries → advance (act a s) limit answers st ≡ with_number 10 st
    unfolding advance run entered
    act_full h = rw (starts _ answers st z, no_room h) (stopped st 10 0 _)

    pub act_noted : st.entries < length st.log / 2 → advance (act a s) limit answers st ≡ advance s limit answers (noted st (did a))
    unfolding advance run entered answer_of receive
    act_noted h =
        rw (starts _ answers st z, some_room h)
        (notes _ (did a) answers _ st _ z (some_room h) (ap (λ n. drop n answers) (add-zero st.taken)))

  -- An access that takes an answer: 10 without room, else 11 without an answer, else its entry and what follows.
  module _ (e : ℕ → Event) (k : List ℕ → ℕ → ℕ → List ℕ → Outcome) (t : (x : ℕ) → answer_of (e x) ≡ x ∷ []) where
    -- `k` takes the memory as the entry leaves it
    abbrev asking : Runs
    asking r ws m = answered e r ws m (λ x. k (receive m (e x)) x)

    pub answered_full : length st.log / 2 ≤ st.entries → onward asking answers st ≡ with_number 10 st
    unfolding answered
    answered_full h = rw (starts asking answers st z, no_room h) (stopped st 10 0 _)

    pub answered_dry : st.entries < length st.log / 2 → length answers ≤ st.taken → onward asking answers st ≡ with_number 11 st
    unfolding answered
    answered_dry h d = rw (starts asking answers st z, some_room h, drop_of_length-le answers d) (stopped st 11 _ [])

    pub answered_noted : st.entries < length st.log / 2 → st.taken < length answers
        → onward asking answers st
        ≡ onward (λ r ws m. k m (get_or answers st.taken 0) r ws) answers (noted st (e (get_or answers st.taken 0)))
    unfolding answered
    answered_noted h d =
        rw (starts asking answers st z, some_room h, drop-cons answers st.taken 0 d)
        (notes (λ r ws m. k m (get_or answers st.taken 0) r ws) (e (get_or answers st.taken 0)) answers _ st _ z (some_room h)
        (rw (t, add-one) refl))
