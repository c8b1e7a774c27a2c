-- What holds of every run, from what holds where it stops and over each entry; and how a run after a timeout ends.
use mathlib.Core.Path.{◌≡◌, refl}
use mathlib.Core.Bool.{Bool, true, false, cond}
use mathlib.Core.List.{List, [], ◌∷◌, ◌++◌}
use mathlib.Core.Logic.{⊎_elim}
use Prim.Native.Nat.{ℕ, zero, suc}
use native.Mathlib.Omega.{arith}
use Rattle.model.specs.Wait.{Cause, ready}
use Rattle.model.specs.Event.{Act, Event, answer_of, receive}
use Rattle.model.specs.Event.Event.{did, polled}
use Rattle.model.specs.Steps.{End, Steps, number_of}
use Rattle.model.specs.Steps.Steps.{end, act, ask, get, look, wait}
use Rattle.model.specs.Run.{Outcome, stop, after, entered, answered, poll, run}
use Rattle.model.specs.Limit.{Ended}

-- What relates the first of both pairs and the second of both relates what a truth value picks of them.
pub cond_relates : {A B : Type 0} (R : A → B → Type 0) (b : Bool) {x y : A} {x' y' : B} → R x x' → R y y' → R (cond b x y) (cond b x' y')
cond_relates R true h i = h
cond_relates R false h i = i

pub cond_holds : {A : Type 0} (P : A → Type 0) (b : Bool) {x y : A} → P x → P y → P (cond b x y)
cond_holds P b h i = cond_relates (λ x (u : Unit {0}). P x) b {x' = tt} {y' = tt} h i

-- `P` is what holds of the room, the answers, the memory and the outcome
module _
    (P : ℕ → List ℕ → List ℕ → Outcome → Type 0)
    (ten : (ws m : List ℕ) → P 0 ws m (stop 10 0 ws m))
    (eleven : (r : ℕ) (m : List ℕ) → P (suc r) [] m (stop 11 (suc r) [] m))
    (past : (e : Event) (r : ℕ) (ws m : List ℕ) (o : Outcome) → P r ws (receive m e) o → P (suc r) (answer_of e ++ ws) m (after e o)) where
  pub on_entered : (a : Act) (r : ℕ) (ws m : List ℕ) (k : ℕ → Outcome) → ((r' : ℕ) → P r' ws m (k r')) → P r ws m (entered (did a) r ws m k)
  unfolding entered receive answer_of
  on_entered a zero ws m k h = ten ws m
  on_entered a (suc r) ws m k h = past (did a) r ws m (k r) (h r)

  pub on_answered : (e : ℕ → Event) (r : ℕ) (ws m : List ℕ) (k : ℕ → ℕ → List ℕ → Outcome) → ((x : ℕ) → answer_of (e x) ≡ x ∷ [])
      → ((x r' : ℕ) (l : List ℕ) → P r' l (receive m (e x)) (k x r' l)) → P r ws m (answered e r ws m k)
  unfolding answered
  on_answered e zero ws m k t h = ten ws m
  on_answered e (suc r) [] m k t h = eleven r m
  on_answered e (suc r) (x ∷ ws) m k t h = rw (t x) at (past (e x) r ws m (k x r ws) (h x r ws))

  pub on_poll : (c : Cause) (m : List ℕ) (k : ℕ → ℕ → List ℕ → Outcome) (u : ℕ → List ℕ → Outcome)
      → ((x r : ℕ) (l : List ℕ) → P r l m (k x r l)) → ((r : ℕ) (l : List ℕ) → P r l m (u r l))
      → (left n r : ℕ) (ws : List ℕ) → P r ws m (poll c k u left n r ws m)
  unfolding poll answer_of receive
  on_poll c m k u hk hu zero n r ws = hu r ws
  on_poll c m k u hk hu (suc left) n r ws =
      on_answered (polled c n) r ws m _ (λ x. refl)
      (λ x r' l. cond_holds (P r' l m) (ready c x) (hk _ r' l) (on_poll c m k u hk hu left _ r' l))

  -- `timed` is what holds where a run ends after a timeout
  pub every : ((r : ℕ) (ws m : List ℕ) → P r ws m (stop 1 r ws m)) → (s : Steps) (limit : ℕ) (late : Bool)
      → ((e : End) (r : ℕ) (ws m : List ℕ) → P r ws m (stop (cond late 1 (number_of e)) r ws m))
      → (r : ℕ) (ws m : List ℕ) → P r ws m (run s limit late r ws m)
  unfolding run answer_of receive
  every timed (end e) l b ends r ws m = ends e r ws m
  every timed (act a s) l b ends r ws m = on_entered a r ws m _ (λ r'. every timed s l b ends r' ws m)
  every timed (ask q k) l b ends r ws m = on_answered _ r ws m _ (λ x. refl) (λ x r' l'. every timed (k _) l b ends r' l' m)
  every timed (get i s) l b ends r ws m = on_answered _ r ws m _ (λ x. refl) (λ x r' l'. every timed s l b ends r' l' _)
  every timed (look k) l b ends r ws m = every timed (k m) l b ends r ws m
  every timed (wait c k u) l b ends r ws m =
      on_poll c m _ _ (λ x r' l'. every timed (k x) l b ends r' l' m) (λ r' l'. every timed u l true (λ e. timed) r' l' m) _ _ r ws

-- 1, 10 and 11 are neither done nor unsupported
pub not_one : Ended 1 → ⊥
not_one = ⊎_elim (λ h. omega arith) (λ h. omega arith)

pub not_ten : Ended 10 → ⊥
not_ten = ⊎_elim (λ h. omega arith) (λ h. omega arith)

pub not_eleven : Ended 11 → ⊥
not_eleven = ⊎_elim (λ h. omega arith) (λ h. omega arith)

-- A run after a timeout is neither done nor unsupported.
pub late_never : (s : Steps) (limit r : ℕ) (ws m : List ℕ) → Ended (run s limit true r ws m).number → ⊥
late_never s limit r ws m =
    every (λ r' l m' o. Ended o.number → ⊥) (λ l m'. not_ten) (λ r' m'. not_eleven) (λ e r' l m' o h. h)
    (λ r' l m'. not_one) s limit true (λ e r' l m'. not_one) r ws m
