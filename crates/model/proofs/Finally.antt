-- Steps that follow whatever the first ended with.
use mathlib.Core.Path.{◌≡◌, refl, ap, ◌∙◌}
use mathlib.Core.Bool.{Bool, true, false, cond}
use mathlib.Core.List.{List, [], ◌++◌}
use mathlib.Core.Logic.{◌⊎◌, inl, ⊎_elim}
use Prim.Native.Nat.{ℕ, zero, suc, ◌+◌, ◌<◌}
use native.Mathlib.Omega.{arith}
use lib.Dec.{eqb}
use lib.ListN.{length, drop}
use borrow.Author.Tests.{ne_eqb}
use Rattle.model.specs.Event.{Event}
use Rattle.model.specs.Event.Event.{did, heard, got}
use Rattle.model.specs.Steps.{End, Steps, number_of, then, finally}
use Rattle.model.specs.Steps.End.{done, unsupported}
use Rattle.model.specs.Steps.Steps.{end, act, ask, get, look, wait}
use Rattle.model.specs.Run.{Outcome, stop, after, answered, poll, run}
use Rattle.model.specs.State.{State, with_number, standing, room_of, ran, advance}
use Rattle.model.specs.Limit.{Ended}
use Rattle.model.specs.Supported.{Supported}
use Rattle.model.specs.Order.{BeginsWithRead, TimeoutStands, StopsAtOnce, TriesOn}
use Rattle.model.proofs.Every.{late_never}
use Rattle.model.proofs.Carries.{Carries, entered_carries, answered_carries, poll_carries}
use Rattle.model.proofs.Ends.{Leaves, leaves}
use Rattle.model.proofs.Then.{Runs}
use Rattle.model.proofs.Advance.{starts, ran_joined, room_ran, rest_ran}

-- where the first times out, the second is neither done nor unsupported
abbrev Stands : Outcome → Outcome → Type 0
Stands o o' = o.number ≡ 1 → Ended o'.number → ⊥

stands : (m : List ℕ) → Carries Stands m m
stands m = record { ten = λ ws z. absurd (omega arith); eleven = λ r z. absurd (omega arith); polls = λ c n x o o' h. h }

pub timeout_stands : TimeoutStands
unfolding run finally
timeout_stands (end done) t l r ws m = λ z. absurd (omega arith)
timeout_stands (end unsupported) t l r ws m = λ z. absurd (omega arith)
timeout_stands (act a s) t l r ws m =
    entered_carries (stands m) (did a) (did a) (λ o o' h. h) r ws _ _ (λ r'. timeout_stands s t l r' ws m)
timeout_stands (ask q k) t l r ws m =
    answered_carries (stands m) (heard q) (heard q) (λ x o o' h. h) r ws _ _ (λ x r' ws'. timeout_stands (k _) t l r' ws' m)
timeout_stands (get i s) t l r ws m =
    answered_carries (stands m) (got i) (got i) (λ x o o' h. h) r ws _ _ (λ x r' ws'. timeout_stands s t l r' ws' _)
timeout_stands (look k) t l r ws m = timeout_stands (k m) t l r ws m
timeout_stands (wait c k u) t l r ws m =
    poll_carries (stands m) c _ _ _ _ (λ x r' ws'. timeout_stands (k x) t l r' ws' m) (λ r' ws' z. late_never (finally u t) l r' ws' m) l 0 r ws

-- where the first meets 10 or 11, the second is the same
abbrev Stops : ℕ → Type 0
Stops n = (n ≡ 10) ⊎ (n ≡ 11)

abbrev Same : Outcome → Outcome → Type 0
Same o o' = Stops o.number → o' ≡ o

same_after : (e : Event) (o o' : Outcome) → Same o o' → Same (after e o) (after e o')
same_after e o o' h z = ap (after e) (h z)

same : (m : List ℕ) → Carries Same m m
same m = record { ten = λ ws z. refl; eleven = λ r z. refl; polls = λ c n x. same_after _ }

no_stop : (e : End) (late : Bool) → Stops (cond late 1 (number_of e)) → ⊥
no_stop e true = ⊎_elim (λ z. omega arith) (λ z. omega arith)
no_stop done false = ⊎_elim (λ z. omega arith) (λ z. omega arith)
no_stop unsupported false = ⊎_elim (λ z. omega arith) (λ z. omega arith)

run_stops : (s t : Steps) (limit : ℕ) (late : Bool) (r : ℕ) (ws m : List ℕ)
    → Same (run s limit late r ws m) (run (finally s t) limit late r ws m)
unfolding run finally
run_stops (end e) t l b r ws m = λ z. absurd (no_stop e b z)
run_stops (act a s) t l b r ws m = entered_carries (same m) (did a) (did a) (same_after _) r ws _ _ (λ r'. run_stops s t l b r' ws m)
run_stops (ask q k) t l b r ws m =
    answered_carries (same m) (heard q) (heard q) (λ x. same_after _) r ws _ _ (λ x r' ws'. run_stops (k _) t l b r' ws' m)
run_stops (get i s) t l b r ws m =
    answered_carries (same m) (got i) (got i) (λ x. same_after _) r ws _ _ (λ x r' ws'. run_stops s t l b r' ws' _)
run_stops (look k) t l b r ws m = run_stops (k m) t l b r ws m
run_stops (wait c k u) t l b r ws m =
    poll_carries (same m) c _ _ _ _ (λ x r' ws'. run_stops (k x) t l b r' ws' m) (λ r' ws'. run_stops u t l true r' ws' m) l 0 r ws

pub stops_at_once : StopsAtOnce
unfolding advance ran
stops_at_once s t l ws st z h =
    let q = starts (run s l false) ws st z in
    rw (starts (run (finally s t) l false) ws st z, q) (ap (ran st) (run_stops s t l false _ _ _ (rw q at h)))

-- what runs begins with an access that takes an answer: without room it is 10 at once, without an answer 11
record Begins (f : Runs) : Type 0 where
  full : (ws m : List ℕ) → f 0 ws m ≡ stop 10 0 ws m
  dry : (r : ℕ) (m : List ℕ) → f (suc r) [] m ≡ stop 11 (suc r) [] m

begins : (t : Steps) (limit : ℕ) → BeginsWithRead t → 0 < limit → Begins (run t limit false)
unfolding run poll answered
begins (end e) l b h = absurd b
begins (act a s) l b h = absurd b
begins (ask q k) l b h = record { full = λ ws m. refl; dry = λ r m. refl }
begins (get i s) l b h = record { full = λ ws m. refl; dry = λ r m. refl }
begins (look k) l b h = absurd b
begins (wait c k u) zero b h = absurd (omega arith)
begins (wait c k u) (suc l) b h = record { full = λ ws m. refl; dry = λ r m. refl }

-- the outcome with n for 0
abbrev renumbered : ℕ → Outcome → Outcome
renumbered n o =
    record { number = cond (eqb o.number 0) n o.number; trace = o.trace; room = o.room; rest = o.rest; memory = o.memory }

abbrev Renumbers : ℕ → Outcome → Outcome → Type 0
Renumbers n o o' = o' ≡ renumbered n o

renumbers_after : (n : ℕ) (e : Event) (o o' : Outcome) → Renumbers n o o' → Renumbers n (after e o) (after e o')
renumbers_after n e o o' h = ap (after e) h

renumbers : (n : ℕ) (m : List ℕ) → Carries (Renumbers n) m m
renumbers n m = record { ten = λ ws. refl; eleven = λ r. refl; polls = λ c k x. renumbers_after n _ }

-- after a timeout the number is not 0
late_renumbers : (n : ℕ) (s : Steps) (limit r : ℕ) (ws m : List ℕ) → Renumbers n (run s limit true r ws m) (run s limit true r ws m)
late_renumbers n s l r ws m = rw (ne_eqb _ 0 (λ z. late_never s l r ws m (inl z))) refl

-- Another end for done, early or late.
run_ending : (s : Steps) (e : End) (limit : ℕ) (late : Bool) (r : ℕ) (ws m : List ℕ) → Supported s
    → run (then s (end e)) limit late r ws m ≡ renumbered (cond late 1 (number_of e)) (run s limit false r ws m)
unfolding run then
run_ending (end done) e l b r ws m h = refl
run_ending (end unsupported) e l b r ws m h = absurd h
run_ending (act a s) e l b r ws m h =
    entered_carries (renumbers _ m) (did a) (did a) (renumbers_after _ _) r ws _ _ (λ r'. run_ending s e l b r' ws m h)
run_ending (ask q k) e l b r ws m h =
    answered_carries (renumbers _ m) (heard q) (heard q) (λ x. renumbers_after _ _) r ws _ _ (λ x r' ws'. run_ending (k _) e l b r' ws' m (h _))
run_ending (get i s) e l b r ws m h =
    answered_carries (renumbers _ m) (got i) (got i) (λ x. renumbers_after _ _) r ws _ _ (λ x r' ws'. run_ending s e l b r' ws' _ h)
run_ending (look k) e l b r ws m h = run_ending (k m) e l b r ws m (h m)
run_ending (wait c k u) e l b r ws m h =
    poll_carries (renumbers _ m) c _ _ _ _ (λ x r' ws'. run_ending (k x) e l b r' ws' m (h.0 x)) (λ r' ws'. late_renumbers _ u l r' ws' m) l 0 r ws

-- an outcome and what runs from there, whatever its number, which stands where that is done
abbrev closed : Runs → Outcome → Outcome
closed f o =
    let next = f o.room o.rest o.memory in
    record {
      number = cond (eqb next.number 0) o.number next.number;
      trace = o.trace ++ next.trace;
      room = next.room;
      rest = next.rest;
      memory = next.memory;
    }

module _ (t : Steps) (limit : ℕ) (supported : Supported t) (reads : BeginsWithRead t) (some : 0 < limit) where
  abbrev Closes : Outcome → Outcome → Type 0
  Closes o o' = o' ≡ closed (run t limit false) o

  closes_after : (e : Event) (o o' : Outcome) → Closes o o' → Closes (after e o) (after e o')
  closes_after e o o' h = ap (after e) h

  closes : (m : List ℕ) → Carries Closes m m
  closes m =
      let b = begins t limit reads some in
      record { ten = λ ws. rw (b.full ws m) refl; eleven = λ r. rw (b.dry r m) refl; polls = λ c n x. closes_after _ }

  run_finally : (s : Steps) (late : Bool) (r : ℕ) (ws m : List ℕ)
      → run (finally s t) limit late r ws m ≡ closed (run t limit false) (run s limit late r ws m)
  unfolding run finally
  run_finally (end e) b r ws m = run_ending t e limit b r ws m supported
  run_finally (act a s) b r ws m = entered_carries (closes m) (did a) (did a) (closes_after _) r ws _ _ (λ r'. run_finally s b r' ws m)
  run_finally (ask q k) b r ws m =
      answered_carries (closes m) (heard q) (heard q) (λ x. closes_after _) r ws _ _ (λ x r' ws'. run_finally (k _) b r' ws' m)
  run_finally (get i s) b r ws m =
      answered_carries (closes m) (got i) (got i) (λ x. closes_after _) r ws _ _ (λ x r' ws'. run_finally s b r' ws' _)
  run_finally (look k) b r ws m = run_finally (k m) b r ws m
  run_finally (wait c k u) b r ws m =
      poll_carries (closes m) c _ _ _ _ (λ x r' ws'. run_finally (k x) b r' ws' m) (λ r' ws'. run_finally u true r' ws' m) limit 0 r ws

  room_closed : (st : State) (o : Outcome) → o.room + length o.trace ≡ room_of st → room_of (with_number 0 (ran st o)) ≡ o.room
  unfolding room_of
  room_closed st o h = room_ran st o h

  ran_closed : (answers : List ℕ) (st : State) (o : Outcome) → Leaves (room_of st) (drop st.taken answers) st.memory o
      → ran st (closed (run t limit false) o) ≡ standing (ran st o) (advance t limit answers (with_number 0 (ran st o)))
  unfolding advance ran
  ran_closed answers st o h =
      let next = run t limit false o.room o.rest o.memory in
      ap (with_number (cond (eqb next.number 0) o.number next.number)) (ran_joined st o next)
      ∙ rw (starts (run t limit false) answers (with_number 0 (ran st o)) refl, room_closed st o h.entries, rest_ran answers st o h.taken) refl

pub tries_on : TriesOn
unfolding advance
tries_on s t l supported reads some ws st z =
    rw (starts (run (finally s t) l false) ws st z, starts (run s l false) ws st z, run_finally t l supported reads some)
    (ran_closed t l supported reads some ws st _ (leaves s l false _ _ _))
