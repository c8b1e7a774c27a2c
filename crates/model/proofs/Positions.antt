-- The positions that polls carry are right, in every run.
use mathlib.Core.Path.{◌≡◌, refl, ◌∙◌}
use mathlib.Core.Bool.{Bool, true, false, cond}
use mathlib.Core.List.{List, [], ◌∷◌}
use Prim.Native.Nat.{ℕ, zero, suc, ◌+◌}
use native.Mathlib.Omega.{arith}
use lib.Dec.{ltb}
use borrow.Author.Tests.{lt-ltb, le-ltb}
use Rattle.model.specs.Wait.{Cause, count_of, ready}
use Rattle.model.specs.Event.{Event}
use Rattle.model.specs.Event.Event.{did, heard, got, polled}
use Rattle.model.specs.Steps.{Steps}
use Rattle.model.specs.Steps.Steps.{end, act, ask, get, look, wait}
use Rattle.model.specs.Run.{Outcome, entered, answered, poll, run}
use Rattle.model.specs.Positions.{due, Fits, Positions, EveryRunCounts}
use Rattle.model.specs.Positions.Due.{free, again}

module _ (limit : ℕ) where
  -- whatever came before, if no poll is due
  abbrev Counts : Outcome → Type 0
  Counts o = (e : Event) → due limit e ≡ free → Positions limit e o.trace

  entered_counts : (f : Event) → Fits free f → due limit f ≡ free → (r : ℕ) (ws m : List ℕ) (k : ℕ → Outcome)
      → ((r' : ℕ) → Counts (k r')) → Counts (entered f r ws m k)
  unfolding entered
  entered_counts f p d zero ws m k h e q = tt
  entered_counts f p d (suc r) ws m k h e q = (rw q p, h r f d)

  -- the continuation is judged behind its entry
  answered_counts : (e : Event) (f : ℕ → Event) → ((x : ℕ) → Fits (due limit e) (f x)) → (r : ℕ) (ws m : List ℕ) (k : ℕ → ℕ → List ℕ → Outcome)
      → ((x r' : ℕ) (l : List ℕ) → Positions limit (f x) (k x r' l).trace) → Positions limit e (answered f r ws m k).trace
  unfolding answered
  answered_counts e f p zero ws m k h = tt
  answered_counts e f p (suc r) [] m k h = tt
  answered_counts e f p (suc r) (x ∷ ws) m k h = (p x, h x r ws)

  module _ (c : Cause) (m : List ℕ) (k : ℕ → ℕ → List ℕ → Outcome) (u : ℕ → List ℕ → Outcome)
      (hk : (x r : ℕ) (l : List ℕ) → Counts (k x r l)) (hu : (r : ℕ) (l : List ℕ) → Counts (u r l)) where
    -- a ready poll goes on by `k`, an unready one by `p`
    polled_counts : (n x : ℕ) (r : ℕ) (l : List ℕ) (p : Outcome) → (b : Bool) → ready c x ≡ b
        → (due limit (polled c n x) ≡ cond (ltb (suc n) limit) (again c (suc n)) free → Positions limit (polled c n x) p.trace)
        → Positions limit (polled c n x) (cond b (k (count_of c x) r l) p).trace
    unfolding due
    polled_counts n x r l p true e h = hk _ r l (polled c n x) (rw e)
    polled_counts n x r l p false e h = h (rw e)

    poll_counts : (left n r : ℕ) (ws : List ℕ) → n + left ≡ limit → (e : Event) → ((x : ℕ) → Fits (due limit e) (polled c n x))
        → (left ≡ 0 → due limit e ≡ free) → Positions limit e (poll c k u left n r ws m).trace
    unfolding poll
    poll_counts zero n r ws q e p d = hu r ws e (d refl)
    poll_counts (suc zero) n r ws q e p d =
        answered_counts e (polled c n) p r ws m _
        (λ x r' l. polled_counts n x r' l _ (ready c x) refl
        (λ z. hu r' l (polled c n x) (z ∙ rw (le-ltb (suc n) limit (omega arith)) refl)))
    poll_counts (suc (suc left)) n r ws q e p d =
        answered_counts e (polled c n) p r ws m _
        (λ x r' l. polled_counts n x r' l _ (ready c x) refl
        (λ z.
        let w : due limit (polled c n x) ≡ again c (suc n) = z ∙ rw (lt-ltb (suc n) limit (omega arith)) refl in
        poll_counts (suc left) (suc n) r' l (omega arith) (polled c n x) (λ y. rw w (y, refl)) (λ y. absurd (omega arith))))

counts : (s : Steps) (limit : ℕ) (late : Bool) (r : ℕ) (ws m : List ℕ) → Counts limit (run s limit late r ws m)
unfolding run due
counts (end e) l b r ws m = λ f q. tt
counts (act a s) l b r ws m = entered_counts l (did a) tt refl r ws m _ (λ r'. counts s l b r' ws m)
counts (ask q k) l b r ws m =
    λ e z. answered_counts l e (heard q) (λ x. rw z tt) r ws m _ (λ x r' l'. counts (k _) l b r' l' m (heard q x) refl)
counts (get i s) l b r ws m =
    λ e z. answered_counts l e (got i) (λ x. rw z tt) r ws m _ (λ x r' l'. counts s l b r' l' _ (got i x) refl)
counts (look k) l b r ws m = counts (k m) l b r ws m
counts (wait c k u) l b r ws m =
    λ e z. poll_counts l c m _ _ (λ x r' l'. counts (k x) l b r' l' m) (λ r' l'. counts u l true r' l' m) l 0 r ws (omega arith) e (λ x. rw z tt) (λ y. z)

pub every_run_counts : EveryRunCounts
unfolding due
every_run_counts s limit late r ws m a = counts s limit late r ws m (did a) refl
