-- What a wait promises.
use Rattle.std.specs.Prelude.{◌≡◌, true, List, ℕ, Result, Ok, Err}
use Rattle.std.specs.Int.NonZero.{non_zero_u32_get}
use Rattle.model.specs.Wait.{Cause, count_of, ready}
use Rattle.model.specs.Steps.{Steps}
use Rattle.model.specs.Steps.End.{done}
use Rattle.model.specs.Steps.Steps.{end, wait}
use Rattle.model.specs.State.{advance}
use Rattle.config.specs.declared.error.QspiError.{QspiError}
use Rattle.access.specs.declared.progress.Tally.{Tally}
use Rattle.access.specs.declared.progress.Progress.{Progress}
use Rattle.access.specs.declared.block.RegisterBlock.{RegisterBlock}
use Rattle.access.specs.Of.{state_of, number_in}
use Rattle.access.specs.Does.{Sound}
use Rattle.access.specs.Makes.{Lent, stopped, progress_at}

-- A wait was done, from the progress p and the log at entry to the progress r and the log at exit. What follows goes on
-- with `count`,
-- which is that of a ready word. That this holds for all that may follow, `k`, is what determines the count.
pub record Waits (c : Cause) (limit : ℕ) (answers : List ℕ) (p : Progress) (log : List ℕ) (r : Progress) (log' : List ℕ) (count : ℕ) : Type 0 where
  pub sound : Sound r
  pub state : (m : List ℕ) (k : ℕ → Steps)
      → advance (wait c k (end done)) limit answers (state_of p log m) ≡ advance (k count) limit answers (state_of r log' m)
  pub counts : number_in r ≡ 0 → (word : ℕ) × (ready c word ≡ true) × (count ≡ count_of c word)

-- a wait that was stopped has no count
abbrev pub count_in : Result ℕ QspiError → ℕ
count_in (Ok count) = count
count_in (Err e) = 0

-- A wait was done at the limit of the block b, from it and the tally t to the block b' and the tally t'.
pub record Polls (c : Cause) (t : Tally) (b : RegisterBlock) (t' : Tally) (b' : RegisterBlock)
    (answer : Result ℕ QspiError) : Type 0 where
  pub lent : Lent b b'
  pub waits :
      Waits c (non_zero_u32_get b.limit) b.answers.words.now (progress_at t (Ok tt) b) b.log.now (progress_at t' (stopped answer) b') b'.log.now (count_in answer)

-- A wait was done from the block b to the block r, by their own tallies.
abbrev pub Waited : Cause → RegisterBlock → RegisterBlock → Result ℕ QspiError → Type 0
Waited c b r answer = Polls c b.tally b r.tally r answer
