-- What may wait has done, one after the other.
use mathlib.Core.List.{List}
use Prim.Native.Nat.{ℕ}
use Rattle.std.proofs.Common.{Bor, MutBor}
use Rattle.std.specs.Prelude.{Result, Ok, Err}
use Rattle.std.specs.Int.NonZero.{non_zero_u32_get}
use Rattle.std.specs.declared.num.NonZeroU32.{NonZeroU32}
use Rattle.model.specs.Steps.{Steps, then}
use Rattle.model.specs.Steps.End.{done}
use Rattle.model.specs.Steps.Steps.{end}
use Rattle.config.specs.declared.error.QspiError.{QspiError}
use Rattle.access.specs.declared.progress.Progress.{Progress}
use Rattle.access.specs.declared.block.RegisterBlock.{RegisterBlock}
use Rattle.access.specs.Of.{with_ended}
use Rattle.access.specs.Does.{Works, Gets, Runs}
use Rattle.access.specs.Makes.{Resumed, Makes, MakesOn, progress_of}
use Rattle.access.specs.Goes.{Goes, GoesOn}
use Rattle.access.proofs.Sequence.{then_does, then_runs, stop_does, stop_runs, does_runs, nothing_done}
use Rattle.config.proofs.Laws.{not_done}
use Rattle.access.proofs.Makes.{lent_then, lent_same}

-- What waits for nothing was done at any limit.
module _ {b r : RegisterBlock} {s : Steps} {e : Result (Unit {0}) QspiError} where
  pub makes_goes : Makes s b r e → Goes s b r e
  makes_goes d =
      let w : Works s b.answers.words.now (progress_of (Ok tt) b) b.log.now (progress_of e r) r.log.now =
      rw d.tally (d.works b.tally b.sound) in
      record { lent = d.lent; does = w.does _ }

  pub makes_goes_on : {m m' : List ℕ} → MakesOn s b m r m' e → GoesOn s b m r m' e
  makes_goes_on {m} {m'} d =
      let w : Gets s b.answers.words.now (progress_of (Ok tt) b) b.log.now m (progress_of e r) r.log.now m' =
      rw d.tally (d.gets b.tally b.sound) in
      record { lent = d.lent; runs = w.runs _ }

module _ {b r : RegisterBlock} where
  pub then_goes : {f g : Steps} {t : RegisterBlock} {e : Result (Unit {0}) QspiError} → Goes f b r (Ok tt)
      → Goes g r t e → Goes (then f g) b t e
  then_goes d e =
      record {
        lent = lent_then d.lent e.lent;
        does = then_does d.does (rw (← d.lent.answers, ← d.lent.limit) e.does);
      }

  pub stop_goes : {f : Steps} (g : Steps) {e : QspiError} → Goes f b r (Err e) → Goes (then f g) b r (Err e)
  stop_goes {f} g {e} d = record { lent = d.lent; does = stop_does f g (not_done e) d.does }

  -- the same on a memory
  pub then_goes_on : {f g : Steps} {t : RegisterBlock} {m m' m'' : List ℕ} {e : Result (Unit {0}) QspiError}
      → GoesOn f b m r m' (Ok tt)
      → GoesOn g r m' t m'' e → GoesOn (then f g) b m t m'' e
  then_goes_on d e =
      record {
        lent = lent_then d.lent e.lent;
        runs = then_runs d.runs (rw (← d.lent.answers, ← d.lent.limit) e.runs);
      }

  pub stop_goes_on : {f : Steps} (g : Steps) {m m' : List ℕ} {e : QspiError} → GoesOn f b m r m' (Err e)
      → GoesOn (then f g) b m r m' (Err e)
  stop_goes_on {f} g {e = e} d = record { lent = d.lent; runs = stop_runs f g (not_done e) d.runs }

  pub goes_on : {s : Steps} {e : Result (Unit {0}) QspiError} → Goes s b r e → (m : List ℕ) → GoesOn s b m r m e
  goes_on d m = record { lent = d.lent; runs = does_runs d.does m }

pub nothing_goes : (b : RegisterBlock) → Goes (end done) b b (Ok tt)
nothing_goes b = record { lent = lent_same b; does = nothing_done b.sound }

-- what was done from a block on whose call had begun at the progress p
pub begun_runs : {p : Progress} {l : NonZeroU32} {log : MutBor (List ℕ)} {answers : Bor (List ℕ)}
    {b r : RegisterBlock} {s : Steps} {m m' : List ℕ}
    {e : Result (Unit {0}) QspiError} → Resumed p l log answers b → GoesOn s b m r m' e
    → Runs s (non_zero_u32_get l) answers.now (with_ended (Ok tt) p) log.now m (progress_of e r) r.log.now m'
begun_runs b d = rw (b.log, b.entries, b.answers, b.tally, b.limit) at d.runs
