-- Calls that go on from a state which earlier calls have left.
use Rattle.std.specs.Prelude.{◌≡◌, List, ◌⊎◌, ℕ}
use Rattle.model.specs.Steps.{Steps}
use Rattle.model.specs.State.{State, with_number, begun, called_from, called}
use Rattle.model.specs.Ends.{Met, Kept}

-- From no entry on it is the call as its user sees it.
abbrev pub BegunIsCalled : Type 0
BegunIsCalled =
    (refused : ℕ) (s : Steps) (limit : ℕ) (answers log m : List ℕ)
    → called_from refused s limit answers (begun log m) ≡ called refused s limit answers log m

-- Once a number is not 0 nothing is done.
abbrev pub EndedStays : Type 0
EndedStays =
    (refused : ℕ) (s : Steps) (limit : ℕ) (answers : List ℕ) (st : State) → (st.number ≡ 0 → ⊥)
    → called_from refused s limit answers st ≡ st

-- Else the call is refused, and all but the number stands as it was; or its number is one that steps end in.
abbrev pub FromEnds : Type 0
FromEnds =
    (refused : ℕ) (s : Steps) (limit : ℕ) (answers : List ℕ) (st : State) → st.number ≡ 0
    → ((refused ≡ 0 → ⊥) × (called_from refused s limit answers st ≡ with_number refused st))
    ⊎ ((refused ≡ 0) × Met (called_from refused s limit answers st).number)

-- However it ends, the entries made before stay, and the words past the last entry.
abbrev pub FromKeeps : Type 0
FromKeeps =
    (refused : ℕ) (s : Steps) (limit : ℕ) (answers : List ℕ) (st : State)
    → Kept st (called_from refused s limit answers st)
