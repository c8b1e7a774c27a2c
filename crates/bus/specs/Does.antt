-- What a call promises its user.
use Rattle.std.specs.Prelude.{◌≡◌, cond, List, ℕ, eqb}
use Rattle.access.specs.declared.progress.Progress.{Progress}
use Rattle.access.specs.Of.{state_of, number_in}
use Rattle.access.specs.Does.{Sound}
use Rattle.bus.specs.Calls.{Call, outcome, outcome_from}

-- a call that leaves the memory alone
pub record Called (call : Call) (limit : ℕ) (answers log : List ℕ) (r : Progress) (log' : List ℕ) : Type 0 where
  pub state : (m : List ℕ) → state_of r log' m ≡ outcome call limit answers log m

-- a call on a lent memory, which was m and is m' now
pub record CalledOn (call : Call) (limit : ℕ) (answers log m : List ℕ) (r : Progress) (log' m' : List ℕ) : Type 0 where
  pub state : state_of r log' m' ≡ outcome call limit answers log m

-- The same of a call that goes on from the progress p. Its own progress is one that the next call can go on from.
pub record CalledFrom (p : Progress) (call : Call) (limit : ℕ) (answers log : List ℕ) (r : Progress)
    (log' : List ℕ) : Type 0 where
  pub sound : Sound r
  pub state : (m : List ℕ) → state_of r log' m ≡ outcome_from call limit answers (state_of p log m)

pub record CalledOnFrom (p : Progress) (call : Call) (limit : ℕ) (answers log m : List ℕ) (r : Progress)
    (log' m' : List ℕ) : Type 0 where
  pub sound : Sound r
  pub state : state_of r log' m' ≡ outcome_from call limit answers (state_of p log m)

-- what stops a call that goes on from p before any access: what has ended p, else its refusal; 0 for neither
abbrev pub ended_or : Progress → ℕ → ℕ
ended_or p number = cond (eqb (number_in p) 0) number (number_in p)
