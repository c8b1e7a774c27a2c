-- What an access, a wait, a phase or a call promises: from the progress p and the log at entry to the progress r and the log at exit.
use Rattle.std.specs.Prelude.{◌≡◌, List, ℕ, ◌≤◌}
use Rattle.model.specs.Steps.{Steps}
use Rattle.model.specs.State.{advance}
use Rattle.access.specs.declared.progress.Progress.{Progress}
use Rattle.access.specs.Of.{state_of}

-- the counts of a progress: no more polls than entries
abbrev pub Sound : Progress → Type 0
Sound p = p.tally.polls ≤ p.entries

-- The steps were done at this limit, whatever the memory, which they leave as it is.
pub record Does (s : Steps) (limit : ℕ) (answers : List ℕ) (p : Progress) (log : List ℕ) (r : Progress) (log' : List ℕ) : Type 0 where
  pub sound : Sound r
  pub state : (m : List ℕ) → state_of r log' m ≡ advance s limit answers (state_of p log m)

-- The same for steps that wait for nothing, whatever the limit.
pub record Works (s : Steps) (answers : List ℕ) (p : Progress) (log : List ℕ) (r : Progress) (log' : List ℕ) : Type 0 where
  pub sound : Sound r
  pub does : (limit : ℕ) → Does s limit answers p log r log'

-- Steps were done on the lent memory, which was m and is m' now. A caller whose memory is larger goes on by the law of the model on a part.
pub record Runs (s : Steps) (limit : ℕ) (answers : List ℕ) (p : Progress) (log m : List ℕ) (r : Progress) (log' m' : List ℕ) : Type 0 where
  pub sound : Sound r
  pub state : state_of r log' m' ≡ advance s limit answers (state_of p log m)

-- The same for steps that wait for nothing, whatever the limit.
pub record Gets (s : Steps) (answers : List ℕ) (p : Progress) (log m : List ℕ) (r : Progress) (log' m' : List ℕ) : Type 0 where
  pub sound : Sound r
  pub runs : (limit : ℕ) → Runs s limit answers p log m r log' m'
