-- The run of steps one after the other is the runs one after the other.
use mathlib.Core.Path.{◌≡◌, refl, ap, ◌∙◌}
use mathlib.Core.Bool.{Bool, true, false, cond}
use mathlib.Core.List.{List, ◌++◌}
use mathlib.Core.Logic.{inl}
use Prim.Native.Nat.{ℕ}
use lib.Dec.{eqb}
use borrow.Author.Tests.{ne_eqb}
use Rattle.model.specs.Event.{Event}
use Rattle.model.specs.Event.Event.{did, heard, got}
use Rattle.model.specs.Steps.{Steps, then}
use Rattle.model.specs.Steps.End.{done, unsupported}
use Rattle.model.specs.Steps.Steps.{end, act, ask, get, look, wait}
use Rattle.model.specs.Run.{Outcome, after, run}
use Rattle.model.proofs.Every.{late_never}
use Rattle.model.proofs.Carries.{Carries, entered_carries, answered_carries, poll_carries}

-- what runs from the room, the answers left and the memory
abbrev pub Runs : Type 0
Runs = ℕ → List ℕ → List ℕ → Outcome

abbrev pub joined : List Event → Outcome → Outcome
joined t o = record { number = o.number; trace = t ++ o.trace; room = o.room; rest = o.rest; memory = o.memory }

-- an outcome, and where it is done what runs from there
unfoldable pub followed : Runs → Outcome → Outcome
followed f o = cond (eqb o.number 0) (joined o.trace (f o.room o.rest o.memory)) o

not_done : (f : Runs) (o : Outcome) → eqb o.number 0 ≡ false → o ≡ followed f o
unfolding followed
not_done f o e = rw e

after_cond : (b : Bool) (e : Event) (o o' : Outcome) → after e (cond b o o') ≡ cond b (after e o) (after e o')
after_cond true e o o' = refl
after_cond false e o o' = refl

module _ (f : Runs) where
  abbrev Follows : Outcome → Outcome → Type 0
  Follows o o' = o' ≡ followed f o

  past : (e : Event) (o o' : Outcome) → Follows o o' → Follows (after e o) (after e o')
  unfolding followed
  past e o o' h = ap (after e) h ∙ after_cond (eqb o.number 0) e _ _

  follows : (m : List ℕ) → Carries Follows m m
  follows m = record { ten = λ ws. not_done f _ refl; eleven = λ r. not_done f _ refl; polls = λ c n x. past _ }

  -- after a timeout nothing follows
  late_follows : (s : Steps) (limit r : ℕ) (ws m : List ℕ) → Follows (run s limit true r ws m) (run s limit true r ws m)
  late_follows s l r ws m = not_done f _ (ne_eqb _ 0 (λ z. late_never s l r ws m (inl z)))

pub run_then : (s t : Steps) (limit r : ℕ) (ws m : List ℕ)
    → run (then s t) limit false r ws m ≡ followed (run t limit false) (run s limit false r ws m)
unfolding run then
run_then (end done) t l r ws m = unfold followed in refl
run_then (end unsupported) t l r ws m = not_done _ _ refl
run_then (act a s) t l r ws m = entered_carries (follows _ m) (did a) (did a) (past _ _) r ws _ _ (λ r'. run_then s t l r' ws m)
run_then (ask q k) t l r ws m =
    answered_carries (follows _ m) (heard q) (heard q) (λ x. past _ _) r ws _ _ (λ x r' ws'. run_then (k _) t l r' ws' m)
run_then (get i s) t l r ws m =
    answered_carries (follows _ m) (got i) (got i) (λ x. past _ _) r ws _ _ (λ x r' ws'. run_then s t l r' ws' _)
run_then (look k) t l r ws m = run_then (k m) t l r ws m
run_then (wait c k u) t l r ws m =
    poll_carries (follows _ m) c _ _ _ _ (λ x r' ws'. run_then (k x) t l r' ws' m) (λ r' ws'. late_follows _ u l r' ws' m) l 0 r ws
