-- Demand 3 for every tree of steps.
use mathlib.Core.Path.{◌≡◌, refl, ap}
use mathlib.Core.Bool.{Bool, true, false, cond}
use mathlib.Core.List.{List, [], ◌∷◌, ◌++◌}
use Prim.Native.Nat.{ℕ, zero, suc, ◌+◌, ◌≤◌, ◌<◌}
use native.Mathlib.Omega.{arith}
use native.Mathlib.Decide.{dec_lt}
use Rattle.model.specs.Wait.{Cause, count_of, ready}
use Rattle.model.specs.Event.{Event}
use Rattle.model.specs.Event.Event.{did, heard, got, polled}
use Rattle.model.specs.Tally.{plus, poll_tally, tally_event, tally_of, longest_of}
use Rattle.model.specs.Steps.{Steps}
use Rattle.model.specs.Steps.Steps.{end, act, ask, get, look, wait}
use Rattle.model.specs.Run.{Outcome, after, entered, answered, poll, run}
use Rattle.model.specs.Limit.{Ended, with_more, Again, AnotherLimit}
use Rattle.model.proofs.Every.{not_ten, not_eleven, late_never}

-- The second run against the first: the same below the limit, else neither done nor unsupported.
record Against (limit : ℕ) (more : List ℕ) (first second : Outcome) : Type 0 where
  same : longest_of first.trace < limit → second ≡ with_more more first
  late : limit ≤ longest_of first.trace → Ended second.number → ⊥

module _ (limit : ℕ) (more : List ℕ) where
  -- an entry in front of both, with fewer unready polls in its wait than the limit
  against_after : (e : Event) (o o' : Outcome) → (tally_event e).longest < limit → Against limit more o o'
      → Against limit more (after e o) (after e o')
  unfolding plus tally_of
  against_after e o o' z g =
      record { same = λ h. ap (after e) (g.same (omega (arith, h))); late = λ h. g.late (omega (arith, h)) }

  -- an entry that is the limit's last poll: the second run is late
  against_last : (e : Event) (o o' : Outcome) → limit ≤ (tally_event e).longest → (Ended o'.number → ⊥)
      → Against limit more (after e o) (after e o')
  unfolding plus tally_of
  against_last e o o' z never = record { same = λ h. absurd (omega (arith, h)); late = λ h. never }

  entered_against : (e : Event) (r : ℕ) (ws m : List ℕ) (k k' : ℕ → Outcome) → (tally_event e).longest < limit
      → ((r' : ℕ) → Ended (k r').number → Against limit more (k r') (k' r'))
      → Ended (entered e r ws m k).number → Against limit more (entered e r ws m k) (entered e r (ws ++ more) m k')
  unfolding entered
  entered_against e zero ws m k k' z h x = absurd (not_ten x)
  entered_against e (suc r) ws m k k' z h x = against_after e (k r) (k' r) z (h r x)

  -- the continuations are compared behind their entry, since a poll may be the limit's last
  answered_against : (e : ℕ → Event) (r : ℕ) (ws m : List ℕ) (k k' : ℕ → ℕ → List ℕ → Outcome)
      → ((x r' : ℕ) (l : List ℕ) → Ended (k x r' l).number → Against limit more (after (e x) (k x r' l)) (after (e x) (k' x r' (l ++ more))))
      → Ended (answered e r ws m k).number → Against limit more (answered e r ws m k) (answered e r (ws ++ more) m k')
  unfolding answered
  answered_against e zero ws m k k' h x = absurd (not_ten x)
  answered_against e (suc r) [] m k k' h x = absurd (not_eleven x)
  answered_against e (suc r) (a ∷ ws) m k k' h x = h a r ws x

  module _ (c : Cause) (some : 0 < limit) (m : List ℕ) (k k' : ℕ → ℕ → List ℕ → Outcome) (u u' : ℕ → List ℕ → Outcome)
      (hk : (x r : ℕ) (l : List ℕ) → Ended (k x r l).number → Against limit more (k x r l) (k' x r (l ++ more)))
      (hu : (r : ℕ) (l : List ℕ) → Ended (u r l).number → ⊥)
      (hu' : (r : ℕ) (l : List ℕ) → Ended (u' r l).number → ⊥) where
    -- a ready poll goes on by `k`, an unready one by `p` in the first run and `p'` in the second
    polled_against : (n x r : ℕ) (l : List ℕ) (p p' : Outcome) (b : Bool) → ready c x ≡ b
        → ((tally_event (polled c n x)).longest ≡ suc n → Ended p.number → Against limit more (after (polled c n x) p) (after (polled c n x) p'))
        → Ended (cond b (k (count_of c x) r l) p).number
        → Against limit more (after (polled c n x) (cond b (k (count_of c x) r l) p)) (after (polled c n x) (cond b (k' (count_of c x) r (l ++ more)) p'))
    unfolding poll_tally tally_event
    polled_against n x r l p p' true e h z = against_after (polled c n x) _ _ (rw e some) (hk _ r l z)
    polled_against n x r l p p' false e h z = h (rw e) z

    -- the first run may make `left` more polls, the second `suc left'`
    poll_against : (left left' n r : ℕ) (ws : List ℕ) → suc (n + left') ≡ limit → Ended (poll c k u left n r ws m).number
        → Against limit more (poll c k u left n r ws m) (poll c k' u' (suc left') n r (ws ++ more) m)
    unfolding poll
    poll_against zero left' n r ws s x = absurd (hu r ws x)
    poll_against (suc left) zero n r ws s x =
        answered_against (polled c n) r ws m _ _
        (λ a r' l. polled_against n a r' l _ _ (ready c a) refl (λ q y. against_last _ _ _ (omega arith) (hu' r' (l ++ more)))) x
    poll_against (suc left) (suc left') n r ws s x =
        answered_against (polled c n) r ws m _ _
        (λ a r' l. polled_against n a r' l _ _ (ready c a) refl
        (λ q y. against_after _ _ _ (omega arith) (poll_against left left' (suc n) r' l (omega arith) y))) x

against : (s : Steps) (limit limit' r : ℕ) (ws more m : List ℕ) → Ended (run s limit false r ws m).number
    → Against (suc limit') more (run s limit false r ws m) (run s (suc limit') false r (ws ++ more) m)
unfolding run poll_tally tally_event tally_of
against (end n) l l' r ws more m x = record { same = λ h. refl; late = λ h. absurd (omega (arith, h)) }
against (act a s) l l' r ws more m x =
    entered_against (suc l') more (did a) r ws m _ _ (omega arith) (λ r'. against s l l' r' ws more m) x
against (ask q k) l l' r ws more m x =
    answered_against (suc l') more (heard q) r ws m _ _
    (λ a r' ws' y. against_after (suc l') more _ _ _ (omega arith) (against (k _) l l' r' ws' more m y)) x
against (get i s) l l' r ws more m x =
    answered_against (suc l') more (got i) r ws m _ _
    (λ a r' ws' y. against_after (suc l') more _ _ _ (omega arith) (against s l l' r' ws' more _ y)) x
against (look k) l l' r ws more m x = against (k m) l l' r ws more m x
against (wait c k u) l l' r ws more m x =
    poll_against (suc l') more c (omega arith) m _ _ _ _ (λ a r' ws'. against (k a) l l' r' ws' more m)
    (λ r' ws'. late_never u l r' ws' m) (λ r' ws'. late_never u (suc l') r' ws' m) l l' 0 r ws (omega arith) x

-- exactly when, from the two halves
exact : (limit : ℕ) (more : List ℕ) (o o' : Outcome) → Ended o.number → Against limit more o o' → Again limit more o o'
exact limit more o o' x g =
    record { exactly = (λ y. below y (dec_lt (longest_of o.trace) limit), λ h. rw (g.same h) x); alike = g.same }
  where
    below : Ended o'.number → Dec (longest_of o.trace < limit) → longest_of o.trace < limit
    below y (yes h) = h
    below y (no h) = absurd (g.late (omega arith) y)

pub another_limit : AnotherLimit
another_limit s limit zero r ws more m h x = absurd (omega arith)
another_limit s limit (suc limit') r ws more m h x = exact (suc limit') more _ _ x (against s limit limit' r ws more m x)
