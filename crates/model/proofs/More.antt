-- More room, and more answers behind.
use mathlib.Core.Path.{◌≡◌, refl, ap, sym, ◌∙◌}
use mathlib.Core.Bool.{Bool, true, false}
use mathlib.Core.List.{List, [], ◌∷◌, ◌++◌}
use Prim.Native.Nat.{ℕ, zero, suc, ◌+◌, ◌-◌, ◌*◌, ◌≤◌}
use native.Mathlib.Omega.{arith}
use native.Mathlib.Nat.{zero-add}
use lib.Dec.{eqb}
use borrow.Author.Tests.{eqb-true, eqb-false}
use lib.ListN.{length, take, length-append}
use Rattle.model.specs.Wait.{Cause, ready}
use Rattle.model.specs.Event.{Event, stored}
use Rattle.model.specs.Event.Event.{did, heard, got, polled}
use Rattle.model.specs.Tally.{plus}
use Rattle.model.specs.Steps.{Steps}
use Rattle.model.specs.Steps.Steps.{end, act, ask, get, look, wait}
use Rattle.model.specs.Run.{Outcome, stop, after, entered, answered, poll, run}
use Rattle.model.specs.State.{State, begun, room_of, ran, onward, advance, called}
use Rattle.model.specs.More.{BeginningOf, RunIsBeginning, Extends, EveryAdvanceExtends, CallIsBeginning}
use Rattle.model.proofs.Trace.{tally_append, answers_append, stored_append}
use Rattle.model.proofs.Every.{cond_relates, cond_holds}
use Rattle.model.proofs.Ends.{leaves}
use Rattle.model.proofs.Kept.{before_stored, own_words, every_advance_keeps}
use Rattle.model.proofs.Advance.{starts}
use Rattle.model.proofs.Called.{called_refused, called_runs}

module _ (k : ℕ) (more : List ℕ) where
  past : (e : Event) (o o' : Outcome) → BeginningOf k more o o' → BeginningOf k more (after e o) (after e o')
  past e o o' h = record { onward = (h.onward.0, ap (e ∷◌) h.onward.1); same = λ p q. ap (after e) (h.same p q) }

  ends_alike : (n r r' : ℕ) (ws m : List ℕ) → r' ≡ k + r → BeginningOf k more (stop n r ws m) (stop n r' (ws ++ more) m)
  ends_alike n r r' ws m e = record { onward = ([], refl); same = λ p q. rw e refl }

  -- the first has no room, the second has
  full : (r : ℕ) (ws m : List ℕ) (o : Outcome) → suc r ≡ k + 0 → BeginningOf k more (stop 10 0 ws m) o
  full r ws m o e = record { onward = (o.trace, refl); same = λ p q. absurd (omega (arith, p refl)) }

  entered_on : (e : Event) (ws m : List ℕ) (f f' : ℕ → Outcome)
      → ((r r' : ℕ) → r' ≡ k + r → BeginningOf k more (f r) (f' r'))
      → (r r' : ℕ) → r' ≡ k + r → BeginningOf k more (entered e r ws m f) (entered e r' (ws ++ more) m f')
  unfolding entered
  entered_on e ws m f f' h zero zero q = ends_alike 10 0 0 ws m q
  entered_on e ws m f f' h zero (suc r') q = full r' ws m _ q
  entered_on e ws m f f' h (suc r) zero q = absurd (omega arith)
  entered_on e ws m f f' h (suc r) (suc r') q = past e _ _ (h r r' (omega arith))

  answered_on : (e : ℕ → Event) (m : List ℕ) (f f' : ℕ → ℕ → List ℕ → Outcome)
      → ((x r r' : ℕ) (l : List ℕ) → r' ≡ k + r → BeginningOf k more (f x r l) (f' x r' (l ++ more)))
      → (r r' : ℕ) (ws : List ℕ) → r' ≡ k + r
      → BeginningOf k more (answered e r ws m f) (answered e r' (ws ++ more) m f')
  unfolding answered
  answered_on e m f f' h zero zero ws q = ends_alike 10 0 0 ws m q
  answered_on e m f f' h zero (suc r') ws q = full r' ws m _ q
  answered_on e m f f' h (suc r) zero ws q = absurd (omega arith)
  answered_on e m f f' h (suc r) (suc r') [] q = record { onward = (_, refl); same = λ p i. rw (i refl, q) refl }
  answered_on e m f f' h (suc r) (suc r') (a ∷ ws) q = past (e a) _ _ (h a r r' ws (omega arith))

  poll_on : (c : Cause) (m : List ℕ) (f f' : ℕ → ℕ → List ℕ → Outcome) (u u' : ℕ → List ℕ → Outcome)
      → ((x r r' : ℕ) (l : List ℕ) → r' ≡ k + r → BeginningOf k more (f x r l) (f' x r' (l ++ more)))
      → ((r r' : ℕ) (l : List ℕ) → r' ≡ k + r → BeginningOf k more (u r l) (u' r' (l ++ more)))
      → (left n r r' : ℕ) (ws : List ℕ) → r' ≡ k + r
      → BeginningOf k more (poll c f u left n r ws m) (poll c f' u' left n r' (ws ++ more) m)
  unfolding poll
  poll_on c m f f' u u' hf hu zero n r r' ws q = hu r r' ws q
  poll_on c m f f' u u' hf hu (suc left) n r r' ws q =
      answered_on (polled c n) m _ _
      (λ x s s' l p. cond_relates (BeginningOf k more) (ready c x) (hf _ s s' l p)
      (poll_on c m f f' u u' hf hu left (suc n) s s' l p)) r r' ws q

  run_on : (s : Steps) (limit : ℕ) (late : Bool) (r r' : ℕ) (ws m : List ℕ) → r' ≡ k + r
      → BeginningOf k more (run s limit late r ws m) (run s limit late r' (ws ++ more) m)
  unfolding run
  run_on (end e) l b r r' ws m q = ends_alike _ r r' ws m q
  run_on (act a s) l b r r' ws m q = entered_on (did a) ws m _ _ (λ x x' p. run_on s l b x x' ws m p) r r' q
  run_on (ask y f) l b r r' ws m q =
      answered_on (heard y) m _ _ (λ a x x' ws' p. run_on (f _) l b x x' ws' m p) r r' ws q
  run_on (get i s) l b r r' ws m q = answered_on (got i) m _ _ (λ a x x' ws' p. run_on s l b x x' ws' _ p) r r' ws q
  run_on (look f) l b r r' ws m q = run_on (f m) l b r r' ws m q
  run_on (wait c f u) l b r r' ws m q =
      poll_on c m _ _ _ _ (λ a x x' ws' p. run_on (f a) l b x x' ws' m p)
      (λ x x' ws' p. run_on u l true x x' ws' m p) l 0 r r' ws q

pub run_is_beginning : RunIsBeginning
run_is_beginning s limit late room k answers more m = run_on k more s limit late room (k + room) answers m refl

-- no count is less
abbrev More : State → State → Type 0
More st st' =
    (st.entries ≤ st'.entries) × (st.taken ≤ st'.taken) × (st.tally.polls ≤ st'.tally.polls)
    × (st.tally.longest ≤ st'.tally.longest)

pub every_advance_extends : EveryAdvanceExtends
unfolding advance onward ran plus
every_advance_extends s limit ws st =
    let kept = every_advance_keeps s limit ws st in
    let counts =
    cond_holds (More st) (eqb st.number 0) (omega arith, omega arith, omega arith, omega arith)
    (omega arith, omega arith, omega arith, omega arith) in
    record { entries = counts.0; taken = counts.1; polls = counts.2; longest = counts.3; log = kept.earlier }

-- two states from no entry on, the second with a longer log and a longer trace
ran_extends : (log behind m : List ℕ) (o o' : Outcome) (t : List Event) → o'.trace ≡ o.trace ++ t
    → length o.trace * 2 ≤ length log
    → Extends (ran (begun log m) o) (ran (begun (log ++ behind) m) o')
unfolding ran plus
ran_extends log behind m o o' t e fits =
    let n = length o.trace in
    let long : n * 2 ≤ length (log ++ behind) = simp length-append (omega arith) in
    rw e
    (record {
      entries = simp length-append (omega arith);
      taken = simp (answers_append, length-append) (omega arith);
      polls = omega (arith, ap (λ a. a.polls) (tally_append o.trace t));
      longest = omega (arith, ap (λ a. a.longest) (tally_append o.trace t));
      log =
          rw zero-add
          (ap (take (n * 2)) (stored_append o.trace t (log ++ behind) 0 ∙ rw zero-add refl)
          ∙ before_stored t (stored (log ++ behind) 0 o.trace) n
          ∙ own_words o.trace (log ++ behind) long ∙ sym (own_words o.trace log fits));
    })

advance_extends : (s : Steps) (limit : ℕ) (answers more log behind m : List ℕ)
    → Extends (advance s limit answers (begun log m)) (advance s limit (answers ++ more) (begun (log ++ behind) m))
unfolding advance room_of
advance_extends s l ws more log behind m =
    let r = room_of (begun log m) in
    let r' = room_of (begun (log ++ behind) m) in
    let long : length (log ++ behind) ≡ length log + length behind = simp length-append in
    let h = run_on (r' - r) more s l false r r' ws m (omega arith) in
    let q = starts (run s l false) ws (begun log m) refl in
    let q' = starts (run s l false) (ws ++ more) (begun (log ++ behind) m) refl in
    rw (q, q')
    (ran_extends log behind m _ _ h.onward.0 h.onward.1 (omega (arith, (leaves s l false r ws m).entries)))

pub call_is_beginning : CallIsBeginning
call_is_beginning refused s l ws more log behind m = by (eqb refused 0) refl
  where
    by : (b : Bool) → eqb refused 0 ≡ b
        → Extends (called refused s l ws log m) (called refused s l (ws ++ more) (log ++ behind) m)
    by true e =
        let z = eqb-true _ _ e in
        rw (called_runs s l ws log m z, called_runs s l (ws ++ more) (log ++ behind) m z)
        (advance_extends s l ws more log behind m)
    by false e =
        let i = eqb-false refused 0 e in
        rw (called_refused s l ws log m i, called_refused s l (ws ++ more) (log ++ behind) m i)
        (record { entries = omega arith; taken = omega arith; polls = omega arith; longest = omega arith; log = refl })
