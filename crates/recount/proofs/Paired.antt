-- Steps in which a read of 008 is a poll or is followed at once by a write there: their runs.
use mathlib.Core.Path.{◌≡◌, refl}
use mathlib.Core.Bool.{Bool, true, false, ◌||◌, true≢false}
use mathlib.Core.List.{List, [], ◌∷◌}
use mathlib.Core.Logic.{◌⊎◌, inl, inr, ⊎_elim}
use Prim.Native.Nat.{ℕ, zero, suc, ◌+◌, ◌*◌}
use native.Mathlib.Omega.{arith}
use lib.Dec.{eqb}
use Rattle.model.specs.Wait.{Cause, ready}
use Rattle.model.specs.Wait.Cause.{space, received, empty, start}
use Rattle.model.specs.Event.{Act, Ask, Event, act_head, ask_head, head_of, words}
use Rattle.model.specs.Event.Act.{write}
use Rattle.model.specs.Event.Ask.{register}
use Rattle.model.specs.Event.Event.{did, heard, got, polled}
use Rattle.model.specs.Tally.{plus, poll_tally, tally_event, tally_of}
use Rattle.model.specs.Steps.{Steps, End, then, finally, change, wait_for}
use Rattle.model.specs.Steps.End.{done, unsupported}
use Rattle.model.specs.Steps.Steps.{end, act, ask, get, look, wait}
use Rattle.model.specs.Run.{Outcome, stop, after, entered, answered, poll, run}
use Rattle.model.proofs.Every.{cond_holds}
use Rattle.recount.specs.Recount.{entries_with, reads, writes}

-- a first word that is none of the three that are counted
abbrev pub Apart : ℕ → Type 0
Apart head = (eqb head (1 * 65536 + 0x01c) || (eqb head (1 * 65536 + 0x008) || eqb head (2 * 65536 + 0x008))) ≡ false

none_of : (a b c : Bool) → (a || (b || c)) ≡ false → (a ≡ false) × (b ≡ false) × (c ≡ false)
none_of false false false e = (refl, refl, refl)
none_of true b c e = absurd (true≢false e)
none_of false true c e = absurd (true≢false e)
none_of false false true e = absurd (true≢false e)

pub data Paired : Steps → Type 0 where
  ends : (e : End) → Paired (end e)
  acts : {a : Act} {s : Steps} → Apart (act_head a) → Paired s → Paired (act a s)
  asks : {q : Ask} {k : ℕ → Steps} → Apart (ask_head q) → ((x : ℕ) → Paired (k x)) → Paired (ask q k)
  pairs : {f : ℕ → ℕ} {k : ℕ → Steps} → ((x : ℕ) → Paired (k x))
      → Paired (ask (register 0x008) (λ x. act (write 0x008 (f x)) (k x)))
  gets : {i : ℕ} {s : Steps} → Paired s → Paired (get i s)
  looks : {k : List ℕ → Steps} → ((m : List ℕ) → Paired (k m)) → Paired (look k)
  waits : {c : Cause} {k : ℕ → Steps} {u : Steps} → ((n : ℕ) → Paired (k n)) → Paired u → Paired (wait c k u)

-- what an event adds to a count of entries
other : (h : ℕ) (e : Event) (t : List Event) → eqb (head_of e) h ≡ false
    → entries_with h (words (e ∷ t)) ≡ entries_with h (words t)
unfolding words entries_with
other h e t n = rw n (omega arith)

one : (h : ℕ) (e : Event) (t : List Event) → eqb (head_of e) h ≡ true
    → entries_with h (words (e ∷ t)) ≡ suc (entries_with h (words t))
unfolding words entries_with
one h e t n = rw n (omega arith)

polls_after : (e : Event) (t : List Event) → (tally_of (e ∷ t)).polls ≡ (tally_event e).polls + (tally_of t).polls
unfolding tally_of plus
polls_after e t = refl

-- as many reads as polls and writes; or one more
abbrev Even : List Event → Type 0
Even t = reads (words t) ≡ (tally_of t).polls + writes (words t)

abbrev More : List Event → Type 0
More t = reads (words t) ≡ suc ((tally_of t).polls + writes (words t))

abbrev pub Balanced : Outcome → Type 0
Balanced o = Even o.trace ⊎ ((o.number ≡ 10) × More o.trace)

stopped : (n room : ℕ) (rest m : List ℕ) → Balanced (stop n room rest m)
unfolding words entries_with tally_of
stopped n room rest m = inl refl

-- an event that is not counted keeps the balance
module _ (e : Event) (apart : Apart (head_of e)) (silent : (tally_event e).polls ≡ 0) where
  past : (o : Outcome) → Balanced o → Balanced (after e o)
  past o =
      let n = none_of _ _ _ apart in
      let a = other _ e o.trace n.0 in
      let b = other _ e o.trace n.1 in
      let w = other _ e o.trace n.2 in
      let p = polls_after e o.trace in
      ⊎_elim {C = Balanced (after e o)} (λ h. inl (omega arith)) (λ h. inr (h.0, omega (arith, h.1)))

-- so does a poll, of 01C or of 008
module _ (e : Event) (polls : (tally_event e).polls ≡ 1) (o : Outcome) where
  poll_past : eqb (head_of e) (2 * 65536 + 0x008) ≡ false → reads (words (e ∷ o.trace)) ≡ suc (reads (words o.trace))
      → Balanced o → Balanced (after e o)
  poll_past h r =
      let w = other (2 * 65536 + 0x008) e o.trace h in
      let p = polls_after e o.trace in
      ⊎_elim {C = Balanced (after e o)} (λ g. inl (omega arith)) (λ g. inr (g.0, omega (arith, g.1)))

  status_past : head_of e ≡ 1 * 65536 + 0x01c → Balanced o → Balanced (after e o)
  status_past h =
      let a = one (1 * 65536 + 0x01c) e o.trace (rw h refl) in
      let b = other (1 * 65536 + 0x008) e o.trace (rw h refl) in
      poll_past (rw h refl) (omega arith)

  start_past : head_of e ≡ 1 * 65536 + 0x008 → Balanced o → Balanced (after e o)
  start_past h =
      let a = other (1 * 65536 + 0x01c) e o.trace (rw h refl) in
      let b = one (1 * 65536 + 0x008) e o.trace (rw h refl) in
      poll_past (rw h refl) (omega arith)

polled_past : (c : Cause) (n x : ℕ) (o : Outcome) → Balanced o → Balanced (after (polled c n x) o)
unfolding head_of tally_event poll_tally
polled_past space n x o = status_past (polled space n x) refl o refl
polled_past received n x o = status_past (polled received n x) refl o refl
polled_past empty n x o = status_past (polled empty n x) refl o refl
polled_past start n x o = start_past (polled start n x) refl o refl

-- an entry, and one that takes an answer
on_entered : (e : Event) → ((o : Outcome) → Balanced o → Balanced (after e o))
    → (r : ℕ) (ws m : List ℕ) (k : ℕ → Outcome) → ((r' : ℕ) → Balanced (k r')) → Balanced (entered e r ws m k)
unfolding entered
on_entered e keeps zero ws m k h = stopped 10 zero ws m
on_entered e keeps (suc r) ws m k h = keeps (k r) (h r)

on_answered : (e : ℕ → Event) → ((x : ℕ) (o : Outcome) → Balanced o → Balanced (after (e x) o))
    → (r : ℕ) (ws m : List ℕ) (k : ℕ → ℕ → List ℕ → Outcome)
    → ((x r' : ℕ) (l : List ℕ) → Balanced (k x r' l)) → Balanced (answered e r ws m k)
unfolding answered
on_answered e keeps zero ws m k h = stopped 10 zero ws m
on_answered e keeps (suc r) [] m k h = stopped 11 (suc r) [] m
on_answered e keeps (suc r) (x ∷ ws) m k h = keeps x (k x r ws) (h x r ws)

on_poll : (c : Cause) (m : List ℕ) (k : ℕ → ℕ → List ℕ → Outcome) (u : ℕ → List ℕ → Outcome)
    → ((x r : ℕ) (l : List ℕ) → Balanced (k x r l)) → ((r : ℕ) (l : List ℕ) → Balanced (u r l))
    → (left n r : ℕ) (ws : List ℕ) → Balanced (poll c k u left n r ws m)
unfolding poll
on_poll c m k u hk hu zero n r ws = hu r ws
on_poll c m k u hk hu (suc left) n r ws =
    on_answered (polled c n) (polled_past c n) r ws m _
    (λ x r' l. cond_holds Balanced (ready c x) (hk _ r' l) (on_poll c m k u hk hu left _ r' l))

-- and a read of 008 with the write that follows it
module _ (x v : ℕ) where
  pair_past : (o : Outcome) → Balanced o → Balanced (after (heard (register 0x008) x) (after (did (write 0x008 v)) o))
  unfolding head_of tally_event
  pair_past o =
      let e = heard (register 0x008) x in
      let d = did (write 0x008 v) in
      let t = o.trace in
      let a = other (1 * 65536 + 0x01c) e (d ∷ t) refl in
      let a' = other (1 * 65536 + 0x01c) d t refl in
      let b = one (1 * 65536 + 0x008) e (d ∷ t) refl in
      let b' = other (1 * 65536 + 0x008) d t refl in
      let w = other (2 * 65536 + 0x008) e (d ∷ t) refl in
      let w' = one (2 * 65536 + 0x008) d t refl in
      let p = polls_after e (d ∷ t) in
      let p' = polls_after d t in
      ⊎_elim {C = Balanced (after e (after d o))} (λ h. inl (omega arith)) (λ h. inr (h.0, omega (arith, h.1)))

  -- the write did not fit
  pair_cut : (ws m : List ℕ) → Balanced (after (heard (register 0x008) x) (stop 10 0 ws m))
  unfolding head_of tally_event words entries_with tally_of plus
  pair_cut ws m = inr (refl, refl)

  on_pair : (r : ℕ) (ws m : List ℕ) (k : ℕ → Outcome) → ((r' : ℕ) → Balanced (k r'))
      → Balanced (after (heard (register 0x008) x) (entered (did (write 0x008 v)) r ws m k))
  unfolding entered
  on_pair zero ws m k h = pair_cut ws m
  on_pair (suc r) ws m k h = pair_past (k r) (h r)

pairs_answered : (f : ℕ → ℕ) (r : ℕ) (ws m : List ℕ) (k : ℕ → ℕ → List ℕ → Outcome)
    → ((x r' : ℕ) (l : List ℕ) → Balanced (k x r' l))
    → Balanced (answered (heard (register 0x008)) r ws m
    (λ x r' rest. entered (did (write 0x008 (f x))) r' rest m (λ r''. k x r'' rest)))
unfolding answered
pairs_answered f zero ws m k h = stopped 10 zero ws m
pairs_answered f (suc r) [] m k h = stopped 11 (suc r) [] m
pairs_answered f (suc r) (x ∷ ws) m k h = on_pair x (f x) r ws m (λ r'. k x r' ws) (λ r'. h x r' ws)

-- Every run of such steps is balanced.
pub balanced : {s : Steps} → Paired s → (limit : ℕ) (late : Bool) (r : ℕ) (ws m : List ℕ)
    → Balanced (run s limit late r ws m)
unfolding run head_of tally_event
balanced (ends e) l b r ws m = stopped _ r ws m
balanced (acts {a = a} apart h) l b r ws m =
    on_entered (did a) (past (did a) apart refl) r ws m _ (λ r'. balanced h l b r' ws m)
balanced (asks {q = q} apart h) l b r ws m =
    on_answered (heard q) (λ x. past (heard q x) apart refl) r ws m _ (λ x r' ws'. balanced (h _) l b r' ws' m)
balanced (pairs {f = f} {k = k} h) l b r ws m =
    pairs_answered f r ws m (λ x r' ws'. run (k x) l b r' ws' m) (λ x r' ws'. balanced (h x) l b r' ws' m)
balanced (gets {i = i} h) l b r ws m =
    on_answered (got i) (λ x. past (got i x) refl refl) r ws m _ (λ x r' ws'. balanced h l b r' ws' _)
balanced (looks h) l b r ws m = balanced (h m) l b r ws m
balanced (waits {c = c} h g) l b r ws m =
    on_poll c m _ _ (λ x r' ws'. balanced (h x) l b r' ws' m)
    (λ r' ws'. balanced g l true r' ws' m) l 0 r ws

-- One after the other.
pub then_paired : {s t : Steps} → Paired s → Paired t → Paired (then s t)
unfolding then
then_paired (ends done) g = g
then_paired (ends unsupported) g = ends unsupported
then_paired (acts apart h) g = acts apart (then_paired h g)
then_paired (asks apart h) g = asks apart (λ x. then_paired (h x) g)
then_paired (pairs h) g = pairs (λ x. then_paired (h x) g)
then_paired (gets h) g = gets (then_paired h g)
then_paired (looks h) g = looks (λ m. then_paired (h m) g)
then_paired (waits h u) g = waits (λ n. then_paired (h n) g) u

-- The second whatever the first ended with.
pub finally_paired : {s t : Steps} → Paired s → Paired t → Paired (finally s t)
unfolding finally
finally_paired (ends e) g = then_paired g (ends e)
finally_paired (acts apart h) g = acts apart (finally_paired h g)
finally_paired (asks apart h) g = asks apart (λ x. finally_paired (h x) g)
finally_paired (pairs h) g = pairs (λ x. finally_paired (h x) g)
finally_paired (gets h) g = gets (finally_paired h g)
finally_paired (looks h) g = looks (λ m. finally_paired (h m) g)
finally_paired (waits h u) g = waits (λ n. finally_paired (h n) g) (finally_paired u g)

-- A change at 008, one at a place that is not counted, and a wait.
pub change_008 : (f : ℕ → ℕ) → Paired (change 0x008 f)
unfolding change
change_008 f = pairs (λ x. ends done)

pub change_at : (place : ℕ) (f : ℕ → ℕ) → Apart (ask_head (register place)) → Apart (act_head (write place 0))
    → Paired (change place f)
unfolding change
change_at place f a w = asks a (λ x. acts w (ends done))

pub wait_paired : (c : Cause) → Paired (wait_for c)
unfolding wait_for
wait_paired c = waits (λ n. ends done) (ends done)
