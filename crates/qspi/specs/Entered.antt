-- What is made in a log apart from its block: from n entries and so many answers taken to as many as there are then.
-- Where it stops early, `ended` says why.
use Rattle.std.specs.Prelude.{List, ℕ, ◌≤◌, Result, Ok}
use Rattle.model.specs.Steps.{Steps}
use Rattle.config.specs.declared.error.QspiError.{QspiError}
use Rattle.access.specs.declared.progress.Tally.{Tally}
use Rattle.access.specs.declared.progress.Progress.{Progress}
use Rattle.access.specs.Does.{Works, Gets}

abbrev pub counts : Result (Unit {0}) QspiError → ℕ → ℕ → Tally → Progress
counts ended n taken t = record { ended = ended; entries = n; taken = taken; tally = t }

-- with no answer taken
pub record Enters (s : Steps) (log : List ℕ) (n : ℕ) (log' : List ℕ) (n' : ℕ) (ended : Result (Unit {0}) QspiError)
    : Type 0 where
  pub grows : n ≤ n'
  pub works : (answers : List ℕ) (taken : ℕ) (t : Tally) → t.polls ≤ n
      → Works s answers (counts (Ok tt) n taken t) log (counts ended n' taken t) log'

-- on the lent memory, which was m and is m' now
pub record EntersOn (s : Steps) (answers log : List ℕ) (n taken : ℕ) (m log' : List ℕ) (n' taken' : ℕ) (m' : List ℕ)
    (ended : Result (Unit {0}) QspiError) : Type 0 where
  pub grows : n ≤ n'
  pub gets : (t : Tally) → t.polls ≤ n
      → Gets s answers (counts (Ok tt) n taken t) log m (counts ended n' taken' t) log' m'
