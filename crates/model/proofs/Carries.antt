-- What relates two outcomes, carried from where the runs stop through each of their entries.
use mathlib.Core.List.{List, [], ◌∷◌}
use Prim.Native.Nat.{ℕ, zero, suc}
use Rattle.model.specs.Wait.{Cause, ready}
use Rattle.model.specs.Event.{Event}
use Rattle.model.specs.Event.Event.{polled}
use Rattle.model.specs.Run.{Outcome, stop, after, entered, answered, poll}
use Rattle.model.proofs.Every.{cond_relates}

-- `R` holds of runs over the memories m and m' that have met 10 or 11, and goes past a poll that both make
pub record Carries (R : Outcome → Outcome → Type 0) (m m' : List ℕ) : Type 0 where
  pub ten : (ws : List ℕ) → R (stop 10 0 ws m) (stop 10 0 ws m')
  pub eleven : (r : ℕ) → R (stop 11 (suc r) [] m) (stop 11 (suc r) [] m')
  pub polls : (c : Cause) (n x : ℕ) (o o' : Outcome) → R o o' → R (after (polled c n x) o) (after (polled c n x) o')

module _ {R : Outcome → Outcome → Type 0} {m m' : List ℕ} (p : Carries R m m') where
  pub entered_carries : (e e' : Event) → ((o o' : Outcome) → R o o' → R (after e o) (after e' o')) → (r : ℕ) (ws : List ℕ) (k k' : ℕ → Outcome)
      → ((r' : ℕ) → R (k r') (k' r')) → R (entered e r ws m k) (entered e' r ws m' k')
  unfolding entered
  entered_carries e e' past zero ws k k' h = p.ten ws
  entered_carries e e' past (suc r) ws k k' h = past (k r) (k' r) (h r)

  pub answered_carries : (e e' : ℕ → Event) → ((x : ℕ) (o o' : Outcome) → R o o' → R (after (e x) o) (after (e' x) o'))
      → (r : ℕ) (ws : List ℕ) (k k' : ℕ → ℕ → List ℕ → Outcome)
      → ((x r' : ℕ) (l : List ℕ) → R (k x r' l) (k' x r' l)) → R (answered e r ws m k) (answered e' r ws m' k')
  unfolding answered
  answered_carries e e' past zero ws k k' h = p.ten ws
  answered_carries e e' past (suc r) [] k k' h = p.eleven r
  answered_carries e e' past (suc r) (x ∷ ws) k k' h = past x (k x r ws) (k' x r ws) (h x r ws)

  pub poll_carries : (c : Cause) (k k' : ℕ → ℕ → List ℕ → Outcome) (u u' : ℕ → List ℕ → Outcome)
      → ((x r : ℕ) (l : List ℕ) → R (k x r l) (k' x r l)) → ((r : ℕ) (l : List ℕ) → R (u r l) (u' r l))
      → (left n r : ℕ) (ws : List ℕ) → R (poll c k u left n r ws m) (poll c k' u' left n r ws m')
  unfolding poll
  poll_carries c k k' u u' hk hu zero n r ws = hu r ws
  poll_carries c k k' u u' hk hu (suc left) n r ws =
      answered_carries (polled c n) (polled c n) (p.polls c n) r ws _ _
      (λ x r' l. cond_relates R (ready c x) (hk _ r' l) (poll_carries c k k' u u' hk hu left (suc n) r' l))
