-- What is done at the register block promises: from the block b at entry to the block r at exit. Where it stops early,
-- `ended` says why.
use Rattle.std.proofs.Common.{Bor, MutBor}
use Rattle.std.specs.Prelude.{◌≡◌, List, ℕ, ◌≤◌, ◌<◌, ◌^◌, get_or, Result, Ok, Err, IfOk, IsOk}
use Rattle.std.specs.declared.num.NonZeroU32.{NonZeroU32}
use Rattle.model.specs.Event.{Ask, said}
use Rattle.model.specs.Steps.{Steps}
use Rattle.model.specs.Steps.End.{done}
use Rattle.model.specs.Steps.Steps.{end, ask}
use Rattle.config.specs.declared.error.QspiError.{QspiError}
use Rattle.access.specs.declared.progress.Tally.{Tally}
use Rattle.access.specs.declared.progress.Progress.{Progress}
use Rattle.access.specs.declared.block.RegisterBlock.{RegisterBlock}
use Rattle.access.specs.Of.{begun}
use Rattle.access.specs.Does.{Works, Gets}

-- the progress of a call at a block, if it ends so and its tally is t
abbrev pub progress_at : Tally → Result (Unit {0}) QspiError → RegisterBlock → Progress
progress_at t e b = record { ended = e; entries = b.entries; taken = b.answers.at; tally = t }

abbrev pub progress_of : Result (Unit {0}) QspiError → RegisterBlock → Progress
progress_of e b = progress_at b.tally e b

-- from the progress p on: log, answers and tally go on as it left them
pub record Resumed (p : Progress) (bound : NonZeroU32) (lent : MutBor (List ℕ)) (words : Bor (List ℕ))
    (b : RegisterBlock) : Type 0 where
  pub name : b.log.ghost_name ≡ lent.ghost_name
  pub log : b.log ≡ lent
  pub entries : b.entries ≡ p.entries
  pub answers : b.answers ≡ record { words = words; at = p.taken }
  pub tally : b.tally ≡ p.tally
  pub limit : b.limit ≡ bound

-- no entry made, and the first answer next
abbrev pub Begun : NonZeroU32 → MutBor (List ℕ) → Bor (List ℕ) → RegisterBlock → Type 0
Begun bound lent words b = Resumed begun bound lent words b

-- the same log and answers are lent, and the limit stands
pub record Lent (b r : RegisterBlock) : Type 0 where
  pub log : r.log.ghost_name ≡ b.log.ghost_name
  pub answers : r.answers.words ≡ b.answers.words
  pub limit : r.limit ≡ b.limit

-- The steps, which wait for nothing, were done or begun, whatever the tally, which they leave as it is, the limit and
-- the memory.
pub record Makes (s : Steps) (b r : RegisterBlock) (ended : Result (Unit {0}) QspiError) : Type 0 where
  pub lent : Lent b r
  pub tally : r.tally ≡ b.tally
  pub grows : b.entries ≤ r.entries
  pub works : (t : Tally) → t.polls ≤ b.entries → Works s b.answers.words.now (progress_at t (Ok tt) b) b.log.now (progress_at t ended r) r.log.now

-- the same on the lent memory, which was m and is m' now
pub record MakesOn (s : Steps) (b : RegisterBlock) (m : List ℕ) (r : RegisterBlock) (m' : List ℕ)
    (ended : Result (Unit {0}) QspiError) : Type 0 where
  pub lent : Lent b r
  pub tally : r.tally ≡ b.tally
  pub grows : b.entries ≤ r.entries
  pub gets : (t : Tally) → t.polls ≤ b.entries → Gets s b.answers.words.now (progress_at t (Ok tt) b) b.log.now m (progress_at t ended r) r.log.now m'

abbrev pub stopped : Result ℕ QspiError → Result (Unit {0}) QspiError
stopped (Ok word) = Ok tt
stopped (Err e) = Err e

-- An answer was taken, and says the word.
pub record Queries (q : Ask) (b r : RegisterBlock) (answer : Result ℕ QspiError) : Type 0 where
  pub makes : Makes (ask q (λ x. end done)) b r (stopped answer)
  pub says : IfOk answer (λ word. word ≡ said q (get_or b.answers.words.now b.answers.at 0))
  pub rises : IsOk answer → (b.entries < r.entries) × (r.entries < 2 ^ 64)
