-- Calls that go on from a state: left alone, refused, or run.
use mathlib.Core.Path.{◌≡◌, refl}
use mathlib.Core.Bool.{Bool, true, false, cond}
use mathlib.Core.List.{List}
use mathlib.Core.Logic.{◌⊎◌, inl, inr}
use Prim.Native.Nat.{ℕ}
use lib.Dec.{eqb}
use borrow.Author.Tests.{ne_eqb, eqb-true, eqb-false}
use Rattle.model.specs.Steps.{Steps}
use Rattle.model.specs.State.{State, with_number, advance, called_from, called}
use Rattle.model.specs.Ends.{Met, Kept}
use Rattle.model.specs.From.{BegunIsCalled, EndedStays, FromEnds, FromKeeps}
use Rattle.model.proofs.Called.{advance_met}
use Rattle.model.proofs.Kept.{every_advance_keeps}

pub begun_is_called : BegunIsCalled
unfolding called
begun_is_called refused s limit answers log m = refl

pub ended_stays : EndedStays
ended_stays refused s limit answers st h = rw (ne_eqb _ _ h) refl

pub from_runs : (refused : ℕ) (s : Steps) (limit : ℕ) (answers : List ℕ) (st : State) → st.number ≡ 0 → refused ≡ 0
    → called_from refused s limit answers st ≡ advance s limit answers st
from_runs refused s limit answers st z i = rw (z, i) refl

-- what stops before it runs, as it had ended or is refused
pub from_stops : (refused : ℕ) (s : Steps) (limit : ℕ) (answers : List ℕ) (st : State)
    → (cond (eqb st.number 0) refused st.number ≡ 0 → ⊥)
    → called_from refused s limit answers st ≡ with_number (cond (eqb st.number 0) refused st.number) st
from_stops refused s limit answers st i = by (eqb st.number 0) i
  where
    by : (b : Bool) → (cond b refused st.number ≡ 0 → ⊥)
        → cond b (cond (eqb refused 0) (advance s limit answers st) (with_number refused st)) st
        ≡ with_number (cond b refused st.number) st
    by true i = rw (ne_eqb _ _ i) refl
    by false i = refl

-- What holds of a state left alone, of a refusal and of the steps holds of the call.
pub from_holds : (P : State → Type 0) (refused : ℕ) (s : Steps) (limit : ℕ) (answers : List ℕ) (st : State)
    → ((st.number ≡ 0 → ⊥) → P st) → (st.number ≡ 0 → (refused ≡ 0 → ⊥) → P (with_number refused st))
    → (st.number ≡ 0 → refused ≡ 0 → P (advance s limit answers st)) → P (called_from refused s limit answers st)
from_holds P refused s limit answers st skips refuses runs = by (eqb st.number 0) (eqb refused 0) refl refl
  where
    by : (a b : Bool) → eqb st.number 0 ≡ a → eqb refused 0 ≡ b
        → P (cond a (cond b (advance s limit answers st) (with_number refused st)) st)
    by false b e f = skips (eqb-false _ _ e)
    by true false e f = refuses (eqb-true _ _ e) (eqb-false _ _ f)
    by true true e f = runs (eqb-true _ _ e) (eqb-true _ _ f)

pub from_ends : FromEnds
from_ends refused s limit answers st z =
    from_holds
    (λ t. ((refused ≡ 0 → ⊥) × (t ≡ with_number refused st)) ⊎ ((refused ≡ 0) × Met t.number))
    refused s limit answers st
    (λ h. absurd (h z)) (λ e i. inl (i, refl)) (λ e r. inr (r, advance_met s limit answers st z))

pub from_keeps : FromKeeps
from_keeps refused s limit answers st =
    from_holds (Kept st) refused s limit answers st (λ h. all) (λ z i. all)
    (λ z r. every_advance_keeps s limit answers st)
  where
    all : {n : ℕ} → Kept st (with_number n st)
    all = record { earlier = refl; past = refl; log = refl; fits = λ q. q; memory = refl }
