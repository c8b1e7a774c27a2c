-- What may wait promises: from the register block b at entry to the block r at exit. Where it stops early, `ended` says
-- why.
use Rattle.std.specs.Prelude.{List, ℕ, Result, Ok}
use Rattle.std.specs.Int.NonZero.{non_zero_u32_get}
use Rattle.model.specs.Steps.{Steps}
use Rattle.config.specs.declared.error.QspiError.{QspiError}
use Rattle.access.specs.declared.block.RegisterBlock.{RegisterBlock}
use Rattle.access.specs.Does.{Does, Runs}
use Rattle.access.specs.Makes.{Lent, progress_of}

-- The steps were done or begun at the block's limit, whatever the memory, which they leave as it is.
pub record Goes (s : Steps) (b r : RegisterBlock) (ended : Result (Unit {0}) QspiError) : Type 0 where
  pub lent : Lent b r
  pub does : Does s (non_zero_u32_get b.limit) b.answers.words.now (progress_of (Ok tt) b) b.log.now
      (progress_of ended r) r.log.now

-- the same on the lent memory, which was m and is m' now
pub record GoesOn (s : Steps) (b : RegisterBlock) (m : List ℕ) (r : RegisterBlock) (m' : List ℕ)
    (ended : Result (Unit {0}) QspiError) : Type 0 where
  pub lent : Lent b r
  pub runs : Runs s (non_zero_u32_get b.limit) b.answers.words.now (progress_of (Ok tt) b) b.log.now m
      (progress_of ended r) r.log.now m'
