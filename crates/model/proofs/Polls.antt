-- How much the entries of a run can weigh: the limit times its poll's weight for each wait on the way, and each other
-- entry.
use mathlib.Core.Path.{◌≡◌, refl, ap₂}
use mathlib.Core.Bool.{true, false}
use mathlib.Core.List.{List, [], ◌∷◌}
use Prim.Native.Nat.{ℕ, zero, suc, ◌+◌, ◌*◌, ◌≤◌}
use native.Mathlib.Omega.{arith}
use native.Mathlib.Nat.{suc-mul, le_trans, mul-one, one-mul, mul-zero, zero-mul, add-zero, zero-add, mul-add}
use native.Mathlib.Nat.{mul-le-mul_left}
use lib.Dec.{eqb}
use lib.ListN.{length}
use Rattle.model.specs.Wait.{Cause, count_of, ready}
use Rattle.model.specs.Wait.Cause.{space, received, empty, start}
use Rattle.model.specs.Event.{Act, Event, said, receive}
use Rattle.model.specs.Event.Event.{did, heard, got, polled}
use Rattle.model.specs.Tally.{plus, poll_tally, tally_event, tally_of}
use Rattle.model.specs.Steps.{Steps, then, finally, change, wait_for}
use Rattle.model.specs.Steps.End.{done, unsupported}
use Rattle.model.specs.Steps.Steps.{end, act, ask, get, look, wait}
use Rattle.model.specs.Run.{Outcome, entered, answered, poll, run}
use Rattle.model.specs.State.{State, begun, ran, onward, advance}
use Rattle.model.specs.Polls.{Weight, weigh, weight, AtMost, Bound, only, all_polls, polls_for, others, worst}
use Rattle.model.specs.Polls.{Bounded, sum, WithinBound, EveryRunWithin, Added, EveryAdvanceAdds, EveryCallAdds}
use Rattle.model.proofs.Every.{cond_holds}
use Rattle.model.proofs.Called.{called_holds}

module _ (w : Weight) where
  -- what an outcome weighs
  abbrev heavy : Outcome → ℕ
  heavy o = weight w o.trace

  entered_weight : (e : Event) (b r : ℕ) (ws m : List ℕ) (k : ℕ → Outcome) → ((r' : ℕ) → weigh w e + heavy (k r') ≤ b)
      → heavy (entered e r ws m k) ≤ b
  unfolding entered weight
  entered_weight e b zero ws m k h = omega arith
  entered_weight e b (suc r) ws m k h = h r

  answered_weight : (e : ℕ → Event) (b r : ℕ) (ws m : List ℕ) (k : ℕ → ℕ → List ℕ → Outcome)
      → ((x r' : ℕ) (l : List ℕ) → weigh w (e x) + heavy (k x r' l) ≤ b) → heavy (answered e r ws m k) ≤ b
  unfolding answered weight
  answered_weight e b zero ws m k h = omega arith
  answered_weight e b (suc r) [] m k h = omega arith
  answered_weight e b (suc r) (x ∷ ws) m k h = h x r ws

  poll_weight : (b : ℕ) (c : Cause) (k : ℕ → ℕ → List ℕ → Outcome) (u : ℕ → List ℕ → Outcome)
      → ((x r : ℕ) (l : List ℕ) → heavy (k x r l) ≤ b) → ((r : ℕ) (l : List ℕ) → heavy (u r l) ≤ b)
      → (left n r : ℕ) (ws m : List ℕ) → heavy (poll c k u left n r ws m) ≤ left * w.poll c + b
  unfolding poll weigh
  poll_weight b c k u hk hu zero n r ws m = omega (arith, hu r ws)
  poll_weight b c k u hk hu (suc left) n r ws m =
      let q = suc-mul left (w.poll c) in
      answered_weight (polled c n) (suc left * w.poll c + b) r ws m _
      (λ x r' l.
      cond_holds (λ o. w.poll c + heavy o ≤ suc left * w.poll c + b) (ready c x) (omega (arith, hk (count_of c x) r' l))
      (omega (arith, poll_weight b c k u hk hu left (suc n) r' l m)))

pub bound : Bound
unfolding run weigh weight
bound w l n (end e) h b r ws m = omega arith
bound w l n (act a s) h b r ws m =
    entered_weight w (did a) n r ws m _ (λ r'. omega (arith, h.1, bound w l h.0 s h.2 b r' ws m))
bound w l n (ask q k) h b r ws m =
    answered_weight w (heard q) n r ws m _
    (λ x r' ws'. omega (arith, h.1, bound w l h.0 (k (said q x)) (h.2 (said q x)) b r' ws' m))
bound w l n (get i s) h b r ws m =
    answered_weight w (got i) n r ws m _
    (λ x r' ws'. omega (arith, h.1, bound w l h.0 s h.2 b r' ws' (receive m (got i x))))
bound w l n (look k) h b r ws m = bound w l n (k m) (h m) b r ws m
bound w l n (wait c k u) h b r ws m =
    le_trans
    (poll_weight w h.0 c _ _ (λ x r' ws'. bound w l h.0 (k x) (h.2 x) b r' ws' m)
    (λ r' ws'. bound w l h.0 u h.3 true r' ws' m) l 0 r ws m) h.1

-- the polls of a trace as a weight, and its entries as polls and others
polls_event : (e : Event) → (tally_event e).polls ≡ weigh all_polls e
unfolding tally_event poll_tally weigh
polls_event (did a) = refl
polls_event (heard q x) = refl
polls_event (got i x) = refl
polls_event (polled c n x) = refl

pub polls_weigh : (t : List Event) → (tally_of t).polls ≡ weight all_polls t
unfolding weight tally_of plus
polls_weigh [] = refl
polls_weigh (e ∷ t) = ap₂ ◌+◌ (polls_event e) (polls_weigh t)

one_or_other : (e : Event) → weigh all_polls e + weigh others e ≡ 1
unfolding weigh
one_or_other (did a) = refl
one_or_other (heard q x) = refl
one_or_other (got i x) = refl
one_or_other (polled c n x) = refl

entries_weigh : (t : List Event) → length t ≡ weight all_polls t + weight others t
unfolding weight
entries_weigh [] = refl
entries_weigh (e ∷ t) = omega (arith, entries_weigh t, one_or_other e)

-- what the waits for one cause, and for all, weigh
worst_for : (c : Cause) (waits : Cause → ℕ) (rest limit : ℕ) → worst (polls_for c) limit waits rest ≡ limit * waits c
worst_for space f r l = simp (mul-one, mul-zero, zero-mul, add-zero)
worst_for received f r l = simp (mul-one, mul-zero, zero-mul, add-zero, zero-add)
worst_for empty f r l = simp (mul-one, mul-zero, zero-mul, add-zero, zero-add)
worst_for start f r l = simp (mul-one, mul-zero, zero-mul, add-zero, zero-add)

worst_all : (waits : Cause → ℕ) (rest limit : ℕ) → worst all_polls limit waits rest ≡ limit * sum waits
worst_all f r l = simp (mul-one, zero-mul, add-zero, mul-add)

worst_others : (waits : Cause → ℕ) (rest limit : ℕ) → worst others limit waits rest ≡ rest
worst_others f r l = simp (one-mul, mul-zero, zero-mul, add-zero, zero-add)

pub every_run_within : EveryRunWithin
every_run_within f r s h l b room ws m =
    let t = (run s l b room ws m).trace in
    let all : weight all_polls t ≤ l * sum f =
    rw (← worst_all f r l) (bound all_polls l _ s (h.weighs all_polls l) b room ws m) in
    let rest : weight others t ≤ r = rw (← worst_others f r l) (bound others l _ s (h.weighs others l) b room ws m) in
    record {
      by_cause = λ c. rw (← worst_for c f r l) (bound (polls_for c) l _ s (h.weighs (polls_for c) l) b room ws m);
      polls = rw (polls_weigh t) all;
      others = rest;
      entries = omega (arith, entries_weigh t);
    }

ran_adds : (waits : Cause → ℕ) (rest limit : ℕ) (st : State) (o : Outcome) → WithinBound waits rest limit o.trace
    → Added waits rest limit st (ran st o)
unfolding ran plus
ran_adds f r l st o q = record { polls = omega (arith, q.polls); entries = omega (arith, q.entries) }

pub every_advance_adds : EveryAdvanceAdds
unfolding advance onward
every_advance_adds f r s h l ws st =
    cond_holds (Added f r l st) (eqb st.number 0) (ran_adds f r l st _ (every_run_within f r s h l false _ _ _))
    (record { polls = omega arith; entries = omega arith })

pub every_call_adds : EveryCallAdds
every_call_adds f r s h refused l ws log m =
    called_holds (Added f r l (begun log m)) refused s l ws log m
    (λ i. record { polls = omega arith; entries = omega arith })
    (λ z. every_advance_adds f r s h l ws (begun log m))

module _ (w : Weight) (limit : ℕ) where
  -- More may be allowed.
  pub more : (n d : ℕ) (s : Steps) → n ≤ d → AtMost w limit n s → AtMost w limit d s
  more n d (end e) q h = tt
  more n d (act a s) q h = (h.0, omega (arith, h.1), h.2)
  more n d (ask k f) q h = (h.0, omega (arith, h.1), h.2)
  more n d (get i s) q h = (h.0, omega (arith, h.1), h.2)
  more n d (look k) q h = λ m. more n d (k m) q (h m)
  more n d (wait c k u) q h = (h.0, omega (arith, h.1), h.2, h.3)

  -- One after the other.
  pub both : (n d : ℕ) (s t : Steps) → AtMost w limit n s → AtMost w limit d t → AtMost w limit (n + d) (then s t)
  unfolding then
  both n d (end done) t h g = more d (n + d) t (omega arith) g
  both n d (end unsupported) t h g = tt
  both n d (act a s) t h g = (h.0 + d, omega (arith, h.1), both h.0 d s t h.2 g)
  both n d (ask q k) t h g = (h.0 + d, omega (arith, h.1), λ x. both h.0 d (k x) t (h.2 x) g)
  both n d (get i s) t h g = (h.0 + d, omega (arith, h.1), both h.0 d s t h.2 g)
  both n d (look k) t h g = λ m. both n d (k m) t (h m) g
  both n d (wait c k u) t h g =
      (h.0 + d, omega (arith, h.1), λ x. both h.0 d (k x) t (h.2 x) g, more h.0 (h.0 + d) u (omega arith) h.3)

  -- The second whatever the first ended with.
  pub whatever : (n d : ℕ) (s t : Steps) → AtMost w limit n s → AtMost w limit d t
      → AtMost w limit (n + d) (finally s t)
  unfolding finally
  whatever n d (end e) t h g = more (d + n) (n + d) (then t (end e)) (omega arith) (both d n t (end e) g tt)
  whatever n d (act a s) t h g = (h.0 + d, omega (arith, h.1), whatever h.0 d s t h.2 g)
  whatever n d (ask q k) t h g = (h.0 + d, omega (arith, h.1), λ x. whatever h.0 d (k x) t (h.2 x) g)
  whatever n d (get i s) t h g = (h.0 + d, omega (arith, h.1), whatever h.0 d s t h.2 g)
  whatever n d (look k) t h g = λ m. whatever n d (k m) t (h m) g
  whatever n d (wait c k u) t h g =
      (h.0 + d, omega (arith, h.1), λ x. whatever h.0 d (k x) t (h.2 x) g, whatever h.0 d u t h.3 g)

  -- A change is two entries, and a wait is one.
  pub change_weight : (place : ℕ) (f : ℕ → ℕ) → AtMost w limit (w.other * 2) (change place f)
  unfolding change
  change_weight place f = (w.other, omega arith, λ x. (0, omega arith, tt))

  pub wait_weight : (c : Cause) → AtMost w limit (limit * w.poll c) (wait_for c)
  unfolding wait_for
  wait_weight c = (0, omega arith, λ count. tt, tt)

-- More may be allowed.
pub more_bounded : {f g : Cause → ℕ} {a b : ℕ} {s : Steps} → ((c : Cause) → f c ≤ g c) → a ≤ b → Bounded f a s
    → Bounded g b s
more_bounded {f} {g} {a} {b} {s} few q h = record { weighs = λ w l. more w l _ _ s (heavier w l) (h.weighs w l) }
  where
    heavier : (w : Weight) (l : ℕ) → worst w l f a ≤ worst w l g b
    heavier w l =
        let cost : (c : Cause) → l * w.poll c * f c ≤ l * w.poll c * g c =
        λ c. mul-le-mul_left (l * w.poll c) (few c) in
        omega (arith, cost space, cost received, cost empty, cost start, mul-le-mul_left w.other q)

joint : (f g : Cause → ℕ) (a b : ℕ) (w : Weight) (l : ℕ)
    → worst w l f a + worst w l g b ≤ worst w l (λ c. f c + g c) (a + b)
joint f g a b w l = rw mul-add (omega arith)

-- One after the other.
pub then_bounded : {f g : Cause → ℕ} {a b : ℕ} {s t : Steps} → Bounded f a s → Bounded g b t
    → Bounded (λ c. f c + g c) (a + b) (then s t)
then_bounded {f} {g} {a} {b} {s} {t} h i =
    record {
      weighs = λ w l. more w l _ _ (then s t) (joint f g a b w l)
          (both w l _ _ s t (h.weighs w l) (i.weighs w l));
    }

-- The second whatever the first ended with.
pub finally_bounded : {f g : Cause → ℕ} {a b : ℕ} {s t : Steps} → Bounded f a s → Bounded g b t
    → Bounded (λ c. f c + g c) (a + b) (finally s t)
finally_bounded {f} {g} {a} {b} {s} {t} h i =
    record {
      weighs = λ w l. more w l _ _ (finally s t) (joint f g a b w l)
          (whatever w l _ _ s t (h.weighs w l) (i.weighs w l));
    }

worst_only : (w : Weight) (l : ℕ) (c : Cause) (n rest : ℕ)
    → worst w l (only c n) rest ≡ l * w.poll c * n + w.other * rest
worst_only w l space n rest = simp (mul-zero, add-zero)
worst_only w l received n rest = simp (mul-zero, zero-add, add-zero)
worst_only w l empty n rest = simp (mul-zero, zero-add, add-zero)
worst_only w l start n rest = simp (mul-zero, zero-add)

-- n waits for one cause
pub only_bounded : (c : Cause) (n rest : ℕ) (s : Steps)
    → ((w : Weight) (limit : ℕ) → AtMost w limit (limit * w.poll c * n + w.other * rest) s) → Bounded (only c n) rest s
only_bounded c n rest s h = record { weighs = λ w l. rw (worst_only w l c n rest) (h w l) }

pub wait_bounded : (c : Cause) → Bounded (only c 1) 0 (wait_for c)
wait_bounded c = only_bounded c 1 0 (wait_for c) (λ w l. more w l _ _ (wait_for c) (fits w l) (wait_weight w l c))
  where
    fits : (w : Weight) (l : ℕ) → l * w.poll c ≤ l * w.poll c * 1 + w.other * 0
    fits w l = omega arith

-- what waits for nothing: an end, a change, and one access
pub end_bounded : {f : Cause → ℕ} {a : ℕ} → Bounded f a (end done)
end_bounded = record { weighs = λ w l. tt }

pub change_bounded : (place : ℕ) (f : ℕ → ℕ) → Bounded (λ c. 0) 2 (change place f)
change_bounded place f = record { weighs = λ w l. more w l _ _ (change place f) (fits w l) (change_weight w l place f) }
  where
    fits : (w : Weight) (l : ℕ) → w.other * 2 ≤ worst w l (λ c. 0) 2
    fits w l = omega arith

pub act_bounded : (a : Act) → Bounded (λ c. 0) 1 (act a (end done))
act_bounded a = record { weighs = λ w l. (0, omega arith, tt) }

pub look_bounded : {f : Cause → ℕ} {a : ℕ} {k : List ℕ → Steps} → ((m : List ℕ) → Bounded f a (k m))
    → Bounded f a (look k)
look_bounded h = record { weighs = λ w l m. (h m).weighs w l }
