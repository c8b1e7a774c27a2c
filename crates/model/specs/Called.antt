-- What a call's number says of what it touched: a refusal has touched nothing, and every other number was met by the steps.
use Rattle.std.specs.Prelude.{◌≡◌, List, ◌⊎◌, ℕ}
use Rattle.model.specs.Steps.{Steps}
use Rattle.model.specs.State.{State, called}
use Rattle.model.specs.Ends.{Met}

-- all four counts are 0, and the log and the memory are as they were lent
pub record Untouched (lentLog lentMemory : List ℕ) (st : State) : Type 0 where
  pub entries : st.entries ≡ 0
  pub taken : st.taken ≡ 0
  pub polls : st.tally.polls ≡ 0
  pub longest : st.tally.longest ≡ 0
  pub log : st.log ≡ lentLog
  pub memory : st.memory ≡ lentMemory

-- refused by n
pub record RefusedBy (n : ℕ) (lentLog lentMemory : List ℕ) (st : State) : Type 0 where
  pub some : n ≡ 0 → ⊥
  pub number : st.number ≡ n
  pub untouched : Untouched lentLog lentMemory st

-- Every call is refused by the number that it is to be refused by, or its number is 0, 1, 2, 10 or 11.
abbrev pub EveryCallEnds : Type 0
EveryCallEnds =
    (refused : ℕ) (s : Steps) (limit : ℕ) (answers log m : List ℕ)
    → RefusedBy refused log m (called refused s limit answers log m) ⊎ Met (called refused s limit answers log m).number

-- So a call with any other number has touched nothing.
abbrev pub OthersTouchNothing : Type 0
OthersTouchNothing =
    (refused : ℕ) (s : Steps) (limit : ℕ) (answers log m : List ℕ) → (Met (called refused s limit answers log m).number → ⊥)
    → Untouched log m (called refused s limit answers log m)
