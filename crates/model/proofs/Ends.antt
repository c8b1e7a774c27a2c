-- How every run ends and what it leaves.
use mathlib.Core.Path.{◌≡◌, refl, ap, ◌∙◌}
use mathlib.Core.Bool.{Bool, true, false, cond}
use mathlib.Core.List.{List, [], ◌∷◌, ◌++◌, append_assoc}
use mathlib.Core.Logic.{inl, inr}
use Prim.Native.Nat.{ℕ, zero, suc, ◌+◌, ◌≤◌, ◌<◌, max}
use native.Mathlib.Omega.{arith}
use native.Mathlib.Nat.{add-zero}
use lib.ListN.{length, length-set}
use Rattle.model.specs.Wait.{Cause, ready}
use Rattle.model.specs.Event.{Event, answer_of, answers_of, receive, received}
use Rattle.model.specs.Event.Event.{did, heard, got, polled}
use Rattle.model.specs.Tally.{plus, poll_tally, tally_event, tally_of, longest_of}
use Rattle.model.specs.Steps.{End, Steps, number_of}
use Rattle.model.specs.Steps.End.{done, unsupported}
use Rattle.model.specs.Steps.Steps.{end, act, ask, get, look, wait}
use Rattle.model.specs.Run.{Outcome, stop, after, entered, answered, poll, run}
use Rattle.model.specs.Ends.{Met, EveryRunEnds}
use Rattle.model.proofs.Trace.{polls_entries}
use Rattle.model.proofs.Every.{every}

-- what a run leaves, whether or not a wait has timed out before it
pub record Leaves (r : ℕ) (ws m : List ℕ) (o : Outcome) : Type 0 where
  pub number : Met o.number
  pub full : o.number ≡ 10 → o.room ≡ 0
  pub dry : o.number ≡ 11 → (o.rest ≡ []) × (0 < o.room)
  pub entries : o.room + length o.trace ≡ r
  pub taken : answers_of o.trace ++ o.rest ≡ ws
  pub bytes : o.memory ≡ received m o.trace

-- a run that stops at once, with neither 10 nor 11
stops : (n r : ℕ) (ws m : List ℕ) → Met n → (n ≡ 10 → ⊥) → (n ≡ 11 → ⊥) → Leaves r ws m (stop n r ws m)
unfolding answers_of received
stops n r ws m h i j =
    record { number = h; full = λ z. absurd (i z); dry = λ z. absurd (j z); entries = add-zero r; taken = refl; bytes = refl }

ended : (e : End) (r : ℕ) (ws m : List ℕ) → Leaves r ws m (stop (number_of e) r ws m)
ended done r ws m = stops 0 r ws m (inl refl) (λ z. omega arith) (λ z. omega arith)
ended unsupported r ws m = stops 2 r ws m (inr (inr (inl refl))) (λ z. omega arith) (λ z. omega arith)

timed : (r : ℕ) (ws m : List ℕ) → Leaves r ws m (stop 1 r ws m)
timed r ws m = stops 1 r ws m (inr (inl refl)) (λ z. omega arith) (λ z. omega arith)

either : (late : Bool) (e : End) (r : ℕ) (ws m : List ℕ) → Leaves r ws m (stop (cond late 1 (number_of e)) r ws m)
either true e = timed
either false e = ended e

pub leaves : (s : Steps) (limit : ℕ) (late : Bool) (r : ℕ) (ws m : List ℕ) → Leaves r ws m (run s limit late r ws m)
unfolding answers_of received
leaves s limit late r ws m = every Leaves ten eleven past timed s limit late (either late) r ws m
  where
    ten : (ws m : List ℕ) → Leaves 0 ws m (stop 10 0 ws m)
    ten ws m =
        record { number = inr (inr (inr (inl refl))); full = λ z. refl; dry = λ z. absurd (omega arith); entries = add-zero 0; taken = refl; bytes = refl }

    eleven : (r : ℕ) (m : List ℕ) → Leaves (suc r) [] m (stop 11 (suc r) [] m)
    eleven r m =
        record {
          number = inr (inr (inr (inr refl)));
          full = λ z. absurd (omega arith);
          dry = λ z. (refl, omega arith);
          entries = add-zero (suc r);
          taken = refl;
          bytes = refl;
        }

    past : (e : Event) (r : ℕ) (ws m : List ℕ) (o : Outcome) → Leaves r ws (receive m e) o → Leaves (suc r) (answer_of e ++ ws) m (after e o)
    past e r ws m o h =
        record {
          number = h.number;
          full = h.full;
          dry = h.dry;
          entries = omega (arith, h.entries);
          taken = append_assoc (answer_of e) (answers_of o.trace) o.rest ∙ ap (answer_of e ++◌) h.taken;
          bytes = h.bytes;
        }

length_receive : (e : Event) (m : List ℕ) → length (receive m e) ≡ length m
unfolding receive
length_receive (did a) m = refl
length_receive (heard q x) m = refl
length_receive (got i x) m = simp length-set
length_receive (polled c n x) m = refl

pub length_received : (t : List Event) (m : List ℕ) → length (received m t) ≡ length m
unfolding received
length_received [] m = refl
length_received (e ∷ t) m = length_received t (receive m e) ∙ length_receive e m

-- longest against the limit, while a wait that has made n unready polls is under way
record Waited (limit n : ℕ) (late : Bool) (o : Outcome) : Type 0 where
  bound : longest_of o.trace ≤ limit
  timeout : late ≡ false → o.number ≡ 1 → max n (longest_of o.trace) ≡ limit

module _ (limit : ℕ) (late : Bool) where
  -- no 1 before a timeout
  waited_stop : (n k r : ℕ) (ws m : List ℕ) → (late ≡ false → k ≡ 1 → ⊥) → Waited limit n late (stop k r ws m)
  unfolding tally_of
  waited_stop n k r ws m h = record { bound = omega arith; timeout = λ f z. absurd (h f z) }

  -- an unready poll of the wait
  waited_on : (e : Event) (n : ℕ) (o : Outcome) → (tally_event e).longest ≡ suc n → suc n ≤ limit → Waited limit (suc n) late o → Waited limit n late (after e o)
  unfolding plus tally_of
  waited_on e n o z q h = record { bound = omega (arith, h.bound); timeout = λ f i. omega (arith, h.timeout f i) }

  -- the wait's ready poll, and an entry outside a wait
  waited_out : (e : Event) (n : ℕ) (o : Outcome) → (tally_event e).longest ≡ 0 → n ≤ limit → Waited limit 0 late o → Waited limit n late (after e o)
  unfolding plus tally_of
  waited_out e n o z q h = record { bound = omega (arith, h.bound); timeout = λ f i. omega (arith, h.timeout f i) }

  entered_waited : (e : Event) (r : ℕ) (ws m : List ℕ) (k : ℕ → Outcome) → (tally_event e).longest ≡ 0 → ((r' : ℕ) → Waited limit 0 late (k r'))
      → Waited limit 0 late (entered e r ws m k)
  unfolding entered
  entered_waited e zero ws m k z h = waited_stop 0 10 0 ws m (λ f i. omega arith)
  entered_waited e (suc r) ws m k z h = waited_out e 0 (k r) z (omega arith) (h r)

  answered_waited : (e : ℕ → Event) (n r : ℕ) (ws m : List ℕ) (k : ℕ → ℕ → List ℕ → Outcome)
      → ((x r' : ℕ) (l : List ℕ) → Waited limit n late (after (e x) (k x r' l))) → Waited limit n late (answered e r ws m k)
  unfolding answered
  answered_waited e n zero ws m k h = waited_stop n 10 0 ws m (λ f i. omega arith)
  answered_waited e n (suc r) [] m k h = waited_stop n 11 (suc r) [] m (λ f i. omega arith)
  answered_waited e n (suc r) (x ∷ ws) m k h = h x r ws

  -- a poll after n unready ones goes on by `k` where it is ready, else by `p`
  polled_waited : (c : Cause) (n x : ℕ) (o p : Outcome) → suc n ≤ limit → Waited limit 0 late o → Waited limit (suc n) late p
      → (b : Bool) → ready c x ≡ b → Waited limit n late (after (polled c n x) (cond b o p))
  unfolding poll_tally tally_event
  polled_waited c n x o p q h i true e = waited_out (polled c n x) n o (rw e) (omega arith) h
  polled_waited c n x o p q h i false e = waited_on (polled c n x) n p (rw e) q i

  poll_waited : (c : Cause) (m : List ℕ) (k : ℕ → ℕ → List ℕ → Outcome) (u : ℕ → List ℕ → Outcome)
      → ((x r : ℕ) (l : List ℕ) → Waited limit 0 late (k x r l)) → ((r : ℕ) (l : List ℕ) → Waited limit 0 true (u r l))
      → (left n r : ℕ) (ws : List ℕ) → n + left ≡ limit → Waited limit n late (poll c k u left n r ws m)
  unfolding poll
  poll_waited c m k u hk hu zero n r ws q =
      record { bound = (hu r ws).bound; timeout = λ f z. omega (arith, (hu r ws).bound) }
  poll_waited c m k u hk hu (suc left) n r ws q =
      answered_waited (polled c n) n r ws m _
      (λ x r' l. polled_waited c n x _ _ (omega arith) (hk _ r' l) (poll_waited c m k u hk hu left (suc n) r' l (omega arith)) (ready c x) refl)

waited : (s : Steps) (limit : ℕ) (late : Bool) (r : ℕ) (ws m : List ℕ) → Waited limit 0 late (run s limit late r ws m)
unfolding run poll_tally tally_event
waited (end e) l true r ws m = waited_stop l true 0 1 r ws m (λ f. absurd (no f))
  where
    no : true ≡ false → ⊥
    no f = let z : ◌≡◌ {A = ℕ} 0 1 = cc in omega arith
waited (end done) l false r ws m = waited_stop l false 0 0 r ws m (λ f z. omega arith)
waited (end unsupported) l false r ws m = waited_stop l false 0 2 r ws m (λ f z. omega arith)
waited (act a s) l b r ws m = entered_waited l b (did a) r ws m _ refl (λ r'. waited s l b r' ws m)
waited (ask q k) l b r ws m = answered_waited l b (heard q) 0 r ws m _ (λ x r' l'. waited_out l b (heard q x) 0 _ refl (omega arith) (waited (k _) l b r' l' m))
waited (get i s) l b r ws m = answered_waited l b (got i) 0 r ws m _ (λ x r' l'. waited_out l b (got i x) 0 _ refl (omega arith) (waited s l b r' l' _))
waited (look k) l b r ws m = waited (k m) l b r ws m
waited (wait c k u) l b r ws m =
    poll_waited l b c m _ _ (λ x r' l'. waited (k x) l b r' l' m) (λ r' l'. waited u l true r' l' m) l 0 r ws (omega arith)

pub every_run_ends : EveryRunEnds
every_run_ends s limit room answers m =
    let o = run s limit false room answers m in
    let h = leaves s limit false room answers m in
    let w = waited s limit false room answers m in
    record {
      number = h.number;
      timeout = λ z. omega (arith, w.timeout refl z);
      full = h.full;
      dry = h.dry;
      waits = w.bound;
      polls = polls_entries o.trace;
      entries = h.entries;
      taken = h.taken;
      bytes = h.bytes;
      size = ap length h.bytes ∙ length_received o.trace m;
    }
