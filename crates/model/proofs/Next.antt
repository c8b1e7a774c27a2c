-- A read as a caller takes it: what an access that takes an answer goes on to, from the state after it and the answer.
use mathlib.Core.Path.{◌≡◌, refl, ap, sym, ◌∙◌}
use mathlib.Core.Bool.{Bool, true, false, cond}
use mathlib.Core.List.{List, [], ◌∷◌}
use Prim.Native.Nat.{ℕ, suc, ◌/◌}
use native.Mathlib.Omega.{arith}
use lib.Dec.{eqb, ltb}
use lib.ListN.{length, get_or, set}
use borrow.Author.Tests.{eqb-true, eqb-false, ltb-true, ltb-false}
use Rattle.model.specs.Wait.{Cause, place_of, count_of, ready}
use Rattle.model.specs.Event.{Ask, Event, said, head_of, value_of, answer_of, receive}
use Rattle.model.specs.Event.Ask.{register, byte}
use Rattle.model.specs.Event.Event.{heard, got, polled}
use Rattle.model.specs.Tally.{Tally, plus, tally_event}
use Rattle.model.specs.Steps.{Steps}
use Rattle.model.specs.Steps.End.{done}
use Rattle.model.specs.Steps.Steps.{end, ask, get, look, wait}
use Rattle.model.specs.Run.{Outcome, stop, answered, poll, run}
use Rattle.model.specs.State.{State, with_number, with_memory, onward, advance}
use Rattle.model.proofs.Trace.{plus_none}
use Rattle.model.proofs.Advance.{skips, starts, stopped, onward_end}
use Rattle.model.proofs.Entry.{noted, answered_full, answered_dry, answered_noted}

-- An answer is taken as event `e` and `k` goes on, against the state st' that the same access leaves as event `f`.
record Next (e f : ℕ → Event) (k : List ℕ → ℕ → ℕ → List ℕ → Outcome) (answers : List ℕ) (st st' : State) : Type 0 where
  stays : (st'.number ≡ 0 → ⊥) → onward (λ r ws m. answered e r ws m (λ x. k (receive m (e x)) x)) answers st ≡ st'
  before : st'.number ≡ 0 → st' ≡ noted st (f (get_or answers st.taken 0))
  goes : st'.number ≡ 0
      → onward (λ r ws m. answered e r ws m (λ x. k (receive m (e x)) x)) answers st
      ≡ onward (λ r ws m. k m (get_or answers st.taken 0) r ws) answers (noted st (e (get_or answers st.taken 0)))

refused : (e f : ℕ → Event) (k : List ℕ → ℕ → ℕ → List ℕ → Outcome) (answers : List ℕ) (st st' : State) → (st'.number ≡ 0 → ⊥)
    → onward (λ r ws m. answered e r ws m (λ x. k (receive m (e x)) x)) answers st ≡ st' → Next e f k answers st st'
refused e f k ws st st' n h = record { stays = λ _. h; before = λ z. absurd (n z); goes = λ z. absurd (n z) }

next : (e f : ℕ → Event) (k : List ℕ → ℕ → ℕ → List ℕ → Outcome) (answers : List ℕ) (st st' : State)
    → ((x : ℕ) → answer_of (e x) ≡ x ∷ []) → ((x : ℕ) → answer_of (f x) ≡ x ∷ [])
    → st' ≡ onward (λ r ws m. answered f r ws m (λ x r' l. stop 0 r' l (receive m (f x)))) answers st
    → Next e f k answers st st'
next e f k ws st st' te tf q = by (eqb st.number 0) (ltb st.entries (length st.log / 2)) (ltb st.taken (length ws)) refl refl refl
  where
    by : (a b c : Bool) → eqb st.number 0 ≡ a → ltb st.entries (length st.log / 2) ≡ b → ltb st.taken (length ws) ≡ c
        → Next e f k ws st st'
    by false b c n r d =
        let i = eqb-false _ _ n in
        let w = q ∙ skips _ ws st i in
        refused e f k ws st st' (λ z. i (sym (ap (λ x. x.number) w) ∙ z)) (skips _ ws st i ∙ sym w)
    by true false c n r d =
        let z = eqb-true _ _ n in
        let w = q ∙ answered_full ws st z f (λ m x r' l. stop 0 r' l m) tf (ltb-false _ _ r) in
        refused e f k ws st st' (λ h. omega (arith, ap (λ x. x.number) w)) (answered_full ws st z e k te (ltb-false _ _ r) ∙ sym w)
    by true true false n r d =
        let z = eqb-true _ _ n in
        let w = q ∙ answered_dry ws st z f (λ m x r' l. stop 0 r' l m) tf (ltb-true _ _ r) (ltb-false _ _ d) in
        refused e f k ws st st' (λ h. omega (arith, ap (λ x. x.number) w))
        (answered_dry ws st z e k te (ltb-true _ _ r) (ltb-false _ _ d) ∙ sym w)
    by true true true n r d =
        let z = eqb-true _ _ n in
        let w = q ∙ answered_noted ws st z f (λ m x r' l. stop 0 r' l m) tf (ltb-true _ _ r) (ltb-true _ _ d) ∙ onward_end ws (noted st _) in
        record {
          stays = λ h. absurd (h (ap (λ x. x.number) w ∙ z));
          before = λ _. w;
          goes = λ _. answered_noted ws st z e k te (ltb-true _ _ r) (ltb-true _ _ d);
        }

-- A read or a byte got: from the state after it, what follows goes on with what the answer says.
pub ask_next : (q : Ask) (k : ℕ → Steps) (limit : ℕ) (answers : List ℕ) (st st' : State) (w : ℕ)
    → st' ≡ advance (ask q (λ x. end done)) limit answers st → (st'.number ≡ 0 → w ≡ said q (get_or answers st.taken 0))
    → advance (ask q k) limit answers st ≡ advance (k w) limit answers st'
unfolding advance run answer_of receive
ask_next q k l ws st st' w h v = by (eqb st'.number 0) refl
  where
    n : Next (heard q) (heard q) (λ m x r' l'. run (k (said q x)) l false r' l' m) ws st st'
    n = next _ _ _ ws st st' (λ x. refl) (λ x. refl) h

    by : (b : Bool) → eqb st'.number 0 ≡ b → advance (ask q k) l ws st ≡ advance (k w) l ws st'
    by true e = let z = eqb-true _ _ e in n.goes z ∙ rw (v z, n.before z) refl
    by false e = let i = eqb-false _ _ e in n.stays i ∙ sym (skips (run (k w) l false) ws st' i)

-- A byte got and stored, from the state after it was got.
module _ (i : ℕ) (s : Steps) (limit : ℕ) (answers : List ℕ) (st st' : State) (w : ℕ)
    (h : st' ≡ advance (ask byte (λ x. end done)) limit answers st) (v : st'.number ≡ 0 → w ≡ said byte (get_or answers st.taken 0)) where
  getting : Next (got i) (heard byte) (λ m x r' l'. run s limit false r' l' m) answers st st'
  unfolding advance run answer_of receive
  getting = next _ _ _ answers st st' (λ x. refl) (λ x. refl) h

  pub get_stopped : (st'.number ≡ 0 → ⊥) → advance (get i s) limit answers st ≡ st'
  unfolding advance run
  get_stopped n = getting.stays n

  pub get_stored : st'.number ≡ 0 → advance (get i s) limit answers st ≡ advance s limit answers (with_memory (set st'.memory i w) st')
  unfolding advance run answer_of receive head_of value_of tally_event
  get_stored z = getting.goes z ∙ rw (v z, getting.before z) refl

-- the state with another tally, and with one more counted
abbrev pub with_tally : Tally → State → State
with_tally a st = record { number = st.number; entries = st.entries; taken = st.taken; tally = a; log = st.log; memory = st.memory }

abbrev pub tallied : Tally → State → State
tallied a st = with_tally (plus st.tally a) st

-- a wait that has made n unready polls and may make `left` more
abbrev pub waiting : Cause → (ℕ → Steps) → Steps → ℕ → ℕ → ℕ → List ℕ → State → State
waiting c k u limit left n answers st =
    onward (λ r ws m. poll c (λ x r' l. run (k x) limit false r' l m) (λ r' l. run u limit true r' l m) left n r ws m) answers st

pub waits : (c : Cause) (k : ℕ → Steps) (u : Steps) (limit : ℕ) (answers : List ℕ) (st : State)
    → advance (wait c k u) limit answers st ≡ waiting c k u limit limit 0 answers st
unfolding advance run
waits c k u l ws st = refl

noted_poll : (c : Cause) (n w : ℕ) (st : State)
    → noted st (polled c n w) ≡ tallied (tally_event (polled c n w)) (noted st (heard (register (place_of c)) w))
unfolding answer_of receive head_of value_of tally_event
noted_poll c n w st = sym (ap (λ a. with_tally (plus a (tally_event (polled c n w))) (noted st (polled c n w))) (plus_none st.tally))

-- One poll, from the state after its read.
module _ (c : Cause) (k : ℕ → Steps) (u : Steps) (limit left n : ℕ) (answers : List ℕ) (st st' : State) (w : ℕ)
    (h : st' ≡ advance (ask (register (place_of c)) (λ x. end done)) limit answers st) (v : st'.number ≡ 0 → w ≡ get_or answers st.taken 0) where
  polling : Next (polled c n) (heard (register (place_of c)))
      (λ m x r' l.
      cond (ready c x) (run (k (count_of c x)) limit false r' l m)
      (poll c (λ x r' l. run (k x) limit false r' l m) (λ r' l. run u limit true r' l m) left (suc n) r' l m)) answers st st'
  unfolding advance run answer_of receive
  polling = next _ _ _ answers st st' (λ x. refl) (λ x. refl) h

  pub poll_stopped : (st'.number ≡ 0 → ⊥) → waiting c k u limit (suc left) n answers st ≡ st'
  unfolding poll receive
  poll_stopped i = polling.stays i

  counted : st'.number ≡ 0 → noted st (polled c n (get_or answers st.taken 0)) ≡ tallied (tally_event (polled c n w)) st'
  counted z = rw (v z) (noted_poll c n (get_or answers st.taken 0) st ∙ rw (polling.before z) refl)

  pub poll_ready : st'.number ≡ 0 → ready c w ≡ true
      → waiting c k u limit (suc left) n answers st ≡ advance (k (count_of c w)) limit answers (tallied (tally_event (polled c n w)) st')
  unfolding poll advance receive
  poll_ready z e = polling.goes z ∙ rw (counted z, ← v z, e) refl

  pub poll_unready : st'.number ≡ 0 → ready c w ≡ false
      → waiting c k u limit (suc left) n answers st ≡ waiting c k u limit left (suc n) answers (tallied (tally_event (polled c n w)) st')
  unfolding poll receive
  poll_unready z e = polling.goes z ∙ rw (counted z, ← v z, e) refl

-- A wait that may poll no more, with nothing tried after it.
pub poll_late : (c : Cause) (k : ℕ → Steps) (limit n : ℕ) (answers : List ℕ) (st : State) → st.number ≡ 0
    → waiting c k (end done) limit 0 n answers st ≡ with_number 1 st
unfolding poll run
poll_late c k l n ws st z = starts _ ws st z ∙ stopped st 1 _ _

-- A look at the memory as it stands.
pub look_next : (k : List ℕ → Steps) (limit : ℕ) (answers : List ℕ) (st : State)
    → advance (look k) limit answers st ≡ advance (k st.memory) limit answers st
unfolding advance onward run
look_next k l ws st = refl
