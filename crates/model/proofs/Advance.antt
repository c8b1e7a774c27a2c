-- Laws of `advance`: steps one after the other, and demand 3 for a call.
use mathlib.Core.Path.{◌≡◌, refl, ap, sym, ◌∙◌}
use mathlib.Core.Bool.{Bool, true, false, cond}
use mathlib.Core.List.{List, ◌++◌}
use Prim.Native.Nat.{ℕ, ◌+◌}
use native.Mathlib.Omega.{arith}
use native.Mathlib.Nat.{add-zero, add_assoc}
use lib.Dec.{eqb}
use lib.ListN.{length, drop, length-append}
use lib.Seq.{drop-drop, drop-append_seam}
use borrow.Author.Tests.{ne_eqb, eq-eqb, eqb-true, eqb-false}
use Rattle.model.specs.Event.{answers_of, words, stored}
use Rattle.model.specs.Tally.{none, plus, tally_of, longest_of}
use Rattle.model.specs.Steps.{End, Steps, number_of, then}
use Rattle.model.specs.Steps.End.{done}
use Rattle.model.specs.Steps.Steps.{end}
use Rattle.model.specs.Run.{Outcome, stop, run}
use Rattle.model.specs.State.{State, begun, with_number, room_of, ran, onward, advance}
use Rattle.model.specs.Order.{ThenAdvances}
use Rattle.model.specs.Limit.{Again, AgainCall, AnotherLimitCall}
use Rattle.model.proofs.Trace.{plus_assoc, plus_none, none_plus, tally_append, answers_append, stored_append, length_stored}
use Rattle.model.proofs.Ends.{Leaves, leaves}
use Rattle.model.proofs.Then.{Runs, joined, followed, run_then}
use Rattle.model.proofs.Limit.{another_limit}

-- nothing runs once a number is not 0
pub skips : (f : Runs) (answers : List ℕ) (st : State) → (st.number ≡ 0 → ⊥) → onward f answers st ≡ st
unfolding onward
skips f ws st h = rw (ne_eqb _ _ h)

pub starts : (f : Runs) (answers : List ℕ) (st : State) → st.number ≡ 0
    → onward f answers st ≡ ran st (f (room_of st) (drop st.taken answers) st.memory)
unfolding onward
starts f ws st h = rw (eq-eqb _ _ h)

pub skipped : (s : Steps) (limit : ℕ) (answers : List ℕ) (st : State) → (st.number ≡ 0 → ⊥) → advance s limit answers st ≡ st
unfolding advance
skipped s l ws st h = skips (run s l false) ws st h

pub ran_joined : (st : State) (o o' : Outcome) → ran st (joined o.trace o') ≡ ran (ran st o) o'
unfolding ran
ran_joined st o o' = simp (length-append, answers_append, tally_append, stored_append, add_assoc, plus_assoc)

pub room_ran : (st : State) (o : Outcome) → o.room + length o.trace ≡ room_of st → room_of (ran st o) ≡ o.room
unfolding room_of ran
room_ran st o h = simp length_stored (omega arith)

-- the answers left after those that a trace took
pub rest_ran : (answers : List ℕ) (st : State) (o : Outcome) → answers_of o.trace ++ o.rest ≡ drop st.taken answers
    → drop (st.taken + length (answers_of o.trace)) answers ≡ o.rest
rest_ran ws st o h =
    sym (drop-drop (length (answers_of o.trace)) st.taken ws) ∙ rw (← h) (drop-append_seam (answers_of o.trace) o.rest)

-- what follows an outcome, where it is done and where it is not
follows : (f : Runs) (answers : List ℕ) (st : State) (o : Outcome) → Leaves (room_of st) (drop st.taken answers) st.memory o
    → (b : Bool) → eqb o.number 0 ≡ b → ran st (followed f o) ≡ onward f answers (ran st o)
unfolding followed ran
follows f ws st o h true e =
    rw e
    (ran_joined st o (f o.room o.rest o.memory)
    ∙ rw (starts f ws (ran st o) (eqb-true _ _ e), room_ran st o h.entries, rest_ran ws st o h.taken) refl)
follows f ws st o h false e = rw e (sym (skips f ws (ran st o) (eqb-false _ _ e)))

pub advance_then : ThenAdvances
unfolding advance
advance_then s t l ws st = by (eqb st.number 0) refl
  where
    by : (b : Bool) → eqb st.number 0 ≡ b → onward (run (then s t) l false) ws st ≡ onward (run t l false) ws (onward (run s l false) ws st)
    by true e =
        let z : st.number ≡ 0 = eqb-true _ _ e in
        rw (starts (run (then s t) l false) ws st z, starts (run s l false) ws st z, run_then)
        (follows (run t l false) ws st _ (leaves s l false _ _ _) _ refl)
    by false e =
        let n : st.number ≡ 0 → ⊥ = eqb-false _ _ e in
        skips _ ws st n ∙ sym (ap (onward (run t l false) ws) (skips _ ws st n) ∙ skips _ ws st n)

-- The same, for states that calls have led to.
pub chain : (s t : Steps) (limit : ℕ) (answers : List ℕ) (st₀ : State) {st₁ st₂ : State} → st₁ ≡ advance s limit answers st₀
    → st₂ ≡ advance t limit answers st₁ → st₂ ≡ advance (then s t) limit answers st₀
chain s t limit answers st₀ p q = q ∙ ap (advance t limit answers) p ∙ sym (advance_then s t limit answers st₀)

-- What is left of some steps, once a call has done the first of them.
pub onto : (s t : Steps) (limit : ℕ) (answers : List ℕ) (st₁ : State) {st st₂ : State} → st ≡ advance (then s t) limit answers st₁
    → st₂ ≡ advance s limit answers st₁ → st ≡ advance t limit answers st₂
onto s t limit answers st₁ p q = p ∙ advance_then s t limit answers st₁ ∙ ap (advance t limit answers) (sym q)

-- A stop at once gives its number and changes nothing else.
pub stopped : (st : State) (n r : ℕ) (ws : List ℕ) → ran st (stop n r ws st.memory) ≡ with_number n st
unfolding ran answers_of tally_of words stored
stopped st n r ws = simp (add-zero, plus_none)

pub onward_end : (answers : List ℕ) (st : State) → onward (λ r ws m. stop 0 r ws m) answers st ≡ st
unfolding onward
onward_end ws st = by (eqb st.number 0) refl
  where
    by : (b : Bool) → eqb st.number 0 ≡ b → cond b (ran st (stop 0 (room_of st) (drop st.taken ws) st.memory)) st ≡ st
    by true e = stopped st 0 _ _ ∙ ap (λ n. with_number n st) (sym (eqb-true _ _ e))
    by false e = refl

pub ended : (limit : ℕ) (answers : List ℕ) (st : State) → advance (end done) limit answers st ≡ st
unfolding advance run
ended l ws st = onward_end ws st

pub ends : (e : End) (limit : ℕ) (answers : List ℕ) (st : State) → st.number ≡ 0 → advance (end e) limit answers st ≡ with_number (number_of e) st
unfolding advance run
ends e l ws st z = starts _ ws st z ∙ stopped st _ _ _

-- two runs from no entry, of which a caller does not see what they leave of the answers
again_ran : (limit : ℕ) (more log m : List ℕ) (o o' : Outcome) → Again limit more o o' → AgainCall limit (ran (begun log m) o) (ran (begun log m) o')
unfolding ran
again_ran limit more log m o o' g =
    let q : longest_of o.trace ≡ (plus none (tally_of o.trace)).longest = ap (λ a. a.longest) (sym (none_plus _)) in
    record { exactly = rw q at g.exactly; alike = λ h. ap (ran (begun log m)) (g.alike (rw (← q) at h)) }

pub another_limit_call : AnotherLimitCall
unfolding advance ran
another_limit_call s l l' ws more log m z x =
    let q = starts (run s l false) ws (begun log m) refl in
    let q' = starts (run s l' false) (ws ++ more) (begun log m) refl in
    rw (q, q') (again_ran l' more log m _ _ (another_limit s l l' (room_of (begun log m)) ws more m z (rw q at x)))
