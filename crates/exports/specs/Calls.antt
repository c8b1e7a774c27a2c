-- What an exported call gives: its number, its counts, the log and the memory, as the call's definition says.
use Rattle.std.specs.Prelude.{◌≡◌, List, ℕ}
use Rattle.model.specs.State.{State}
use Rattle.opening.specs.Call.{Result}
use Rattle.counts.specs.declared.Counts.{Counts}
use Rattle.counts.specs.Told.{told_of}

-- a call that leaves the memory alone; its definition gives `outcome` of any memory
pub record Gives (outcome : List ℕ → State) (log' : List ℕ) (number : ℕ) (counts : Counts) : Type 0 where
  pub told : (m : List ℕ) → record { number = number; counts = counts; log = log'; memory = m } ≡ told_of (outcome m)

-- a call on a lent memory, which is m' now; its definition gives `outcome`
pub record GivesOn (outcome : State) (log' m' : List ℕ) (number : ℕ) (counts : Counts) : Type 0 where
  pub told : record { number = number; counts = counts; log = log'; memory = m' } ≡ told_of outcome

-- an opening, with its rate
pub record GivesOpening (outcome : List ℕ → Result) (log' : List ℕ) (rate number : ℕ) (counts : Counts) : Type 0 where
  pub opened : Gives (λ m. (outcome m).state) log' number counts
  pub rated : (m : List ℕ) → rate ≡ (outcome m).rate
