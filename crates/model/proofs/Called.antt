-- A call that may be refused: what its number says, and what refuses it.
use mathlib.Core.Path.{◌≡◌, refl, sym, ◌∙◌}
use mathlib.Core.Bool.{Bool, true, false, cond}
use mathlib.Core.List.{List}
use mathlib.Core.Logic.{◌⊎◌, inl, inr, ⊎_elim}
use Prim.Native.Nat.{ℕ, ◌<◌}
use native.Mathlib.Omega.{arith}
use lib.Dec.{eqb}
use borrow.Author.Tests.{ne_eqb, eqb-true, eqb-false}
use Rattle.model.specs.Steps.{Steps}
use Rattle.model.specs.State.{State, begun, with_number, room_of, ran, advance, limit_first, called}
use Rattle.model.specs.Run.{run}
use Rattle.model.specs.Ends.{Met}
use Rattle.model.specs.Called.{RefusedBy, EveryCallEnds, OthersTouchNothing}
use Rattle.model.proofs.Advance.{starts}
use Rattle.model.proofs.Ends.{every_run_ends}

module _ {refused : ℕ} (s : Steps) (limit : ℕ) (answers log m : List ℕ) where
  pub called_refused : (refused ≡ 0 → ⊥) → called refused s limit answers log m ≡ with_number refused (begun log m)
  unfolding called
  called_refused i = rw (ne_eqb _ _ i) refl

  pub called_runs : refused ≡ 0 → called refused s limit answers log m ≡ advance s limit answers (begun log m)
  unfolding called
  called_runs z = rw z refl

-- What holds of the refusal, and of the steps from no entry on, holds of the call.
pub called_holds : (P : State → Type 0) (refused : ℕ) (s : Steps) (limit : ℕ) (answers log m : List ℕ)
    → ((refused ≡ 0 → ⊥) → P (with_number refused (begun log m))) → (refused ≡ 0 → P (advance s limit answers (begun log m)))
    → P (called refused s limit answers log m)
unfolding called
called_holds P refused s limit answers log m r a = by (eqb refused 0) refl
  where
    by : (b : Bool) → eqb refused 0 ≡ b → P (cond b (advance s limit answers (begun log m)) (with_number refused (begun log m)))
    by true e = a (eqb-true _ _ e)
    by false e = r (eqb-false refused 0 e)

pub advance_met : (s : Steps) (limit : ℕ) (answers : List ℕ) (st : State) → st.number ≡ 0
    → Met (advance s limit answers st).number
unfolding advance ran
advance_met s limit answers st z =
    rw (starts (run s limit false) answers st z) (every_run_ends s limit (room_of st) _ st.memory).number

pub every_call_ends : EveryCallEnds
every_call_ends refused s limit answers log m =
    called_holds (λ st. RefusedBy refused log m st ⊎ Met st.number) refused s limit answers log m
    (λ i.
    inl
    (record {
      some = i;
      number = refl;
      untouched = record { entries = refl; taken = refl; polls = refl; longest = refl; log = refl; memory = refl };
    }))
    (λ z. inr (advance_met s limit answers (begun log m) refl))

pub others_touch_nothing : OthersTouchNothing
others_touch_nothing refused s limit answers log m never =
    ⊎_elim (λ r. r.untouched) (λ h. absurd (never h)) (every_call_ends refused s limit answers log m)

-- A number that no steps end in is given only as the refusal.
pub called_never : (n refused : ℕ) (s : Steps) (limit : ℕ) (answers log m : List ℕ) → (Met n → ⊥) → (refused ≡ n → ⊥)
    → (called refused s limit answers log m).number ≡ n → ⊥
called_never n refused s limit answers log m never i h =
    ⊎_elim {C = ⊥} (λ r. i (sym r.number ∙ h)) (λ met. never (rw h at met)) (every_call_ends refused s limit answers log m)

-- a number from 3 to 9 is no such number
pub refusal_not_met : (n : ℕ) → 2 < n → n < 10 → Met n → ⊥
refusal_not_met n a b =
    ⊎_elim (λ e. omega (arith, e)) (⊎_elim (λ e. omega (arith, e)) (⊎_elim (λ e. omega (arith, e)) (⊎_elim (λ e. omega (arith, e)) (λ e. omega (arith, e)))))

-- What is not refused has a limit, and nothing else refuses it; what has a limit is refused by the rest alone.
pub limit_accepted : (limit other : ℕ) → limit_first limit other ≡ 0 → (0 < limit) × (other ≡ 0)
limit_accepted limit other z = by (eqb limit 0) refl z
  where
    by : (b : Bool) → eqb limit 0 ≡ b → cond b 7 other ≡ 0 → (0 < limit) × (other ≡ 0)
    by true q h = absurd (omega (arith, h))
    by false q h =
        let i : limit ≡ 0 → ⊥ = eqb-false _ _ q in
        (omega arith, h)

pub limit_passed : (limit other : ℕ) → (limit ≡ 0 → ⊥) → limit_first limit other ≡ other
limit_passed limit other i = rw (ne_eqb limit 0 i) refl

pub limit_never : (limit other n : ℕ) → (n ≡ 7 → ⊥) → (other ≡ n → ⊥) → limit_first limit other ≡ n → ⊥
limit_never limit other n l i h = by (eqb limit 0) h
  where
    by : (b : Bool) → cond b 7 other ≡ n → ⊥
    by true h = l (sym h)
    by false h = i h
