-- The quad calls: what stops before the data phase, and what follows it.
use mathlib.Core.Path.{◌≡◌, refl, ap, sym, ◌∙◌}
use mathlib.Core.Bool.{cond, false}
use mathlib.Core.List.{List}
use Prim.Native.Nat.{ℕ, ◌<◌}
use borrow.Author.Tests.{ne_eqb}
use lib.Dec.{eqb}
use Rattle.std.specs.Prelude.{Result, Ok, Err}
use Rattle.std.specs.Int.NonZero.{non_zero_u32_get}
use Rattle.model.specs.Steps.{Steps, then, change, wait_for}
use Rattle.model.specs.State as state
use Rattle.model.specs.State.{State, standing, advance}
use Rattle.model.specs.Supported.{Supported}
use Rattle.model.specs.Order.{BeginsWithRead}
use Rattle.model.proofs.Finally.{tries_on}
use Rattle.mode.specs.Mode.{lines, mode_changes, work_mode_steps}
use Rattle.config.specs.declared.error.QspiError.{QspiError}
use Rattle.config.specs.Error.{error_number}
use Rattle.access.specs.declared.block.RegisterBlock.{RegisterBlock}
use Rattle.access.specs.declared.progress.Progress.{Progress}
use Rattle.access.specs.Of.{state_of, number_in}
use Rattle.access.specs.Does.{Sound, Does, Runs}
use Rattle.access.specs.Goes.{Goes, GoesOn}
use Rattle.access.specs.Makes.{progress_of}
use Rattle.config.proofs.Laws.{not_done}
use Rattle.access.proofs.Makes.{lent_then}
use Rattle.access.proofs.Goes.{stop_goes}
use Rattle.access.proofs.Sequence.{then_runs, does_runs, stop_does}
use Rattle.quad.specs.Quad.{standard_mode, quad_start, quad_steps}
use Rattle.quad.specs.Frames.{Closes}

-- Mode Standard never ends unsupported, and begins with a poll.
pub standard_supported : Supported standard_mode
unfolding standard_mode work_mode_steps mode_changes lines wait_for then change
standard_supported = (λ n w w'. tt, tt)

pub standard_begins : BeginsWithRead standard_mode
unfolding standard_mode work_mode_steps wait_for then
standard_begins = tt

-- Standard is done: the call ends as its data phase did.
pub closes_done : (ended : Result (Unit {0}) QspiError) {p r : RegisterBlock} → Goes standard_mode p r (Ok tt)
    → Closes ended p r ended
closes_done ended {p} d =
    record {
      lent = d.lent;
      sound = d.does.sound;
      state = λ m. ap (standing (state_of (progress_of ended p) p.log.now m)) (d.does.state m);
    }

-- Standard's failure wins.
pub closes_failed : (ended : Result (Unit {0}) QspiError) {p r : RegisterBlock} {e : QspiError}
    → Goes standard_mode p r (Err e) → Closes ended p r (Err e)
closes_failed ended {p} {r} {e} d =
    let wins : eqb (error_number e) 0 ≡ false = ne_eqb _ _ (not_done e) in
    record {
      lent = d.lent;
      sound = d.does.sound;
      state = λ m.
          ap (λ b. state.with_number (cond b (state_of (progress_of ended p) p.log.now m).number (error_number e))
          (state_of (progress_of (Err e) r) r.log.now m)) (sym wins)
          ∙ ap (standing (state_of (progress_of ended p) p.log.now m)) (d.does.state m);
    }

-- Standard was tried, from the progress p to the progress r; where it is done p's number stands.
pub record Tried (limit : ℕ) (answers : List ℕ) (p : Progress) (log : List ℕ) (r : Progress) (log' : List ℕ)
    : Type 0 where
  pub sound : Sound r
  pub state : (m : List ℕ) → state_of r log' m
      ≡ standing (state_of p log m) (advance standard_mode limit answers (state.with_number 0 (state_of p log m)))

tried : {ended result : Result (Unit {0}) QspiError} {p r : RegisterBlock} → Closes ended p r result
    → Tried (non_zero_u32_get p.limit) p.answers.words.now
    (progress_of ended p) p.log.now (progress_of result r) r.log.now
tried c = record { sound = c.sound; state = c.state }

-- Where the command's phase or mode Quad failed, nothing follows.
pub quad_stops : (command : List ℕ) (phase : Steps) {limit : ℕ} {answers : List ℕ} {p r : Progress}
    {log log' : List ℕ} → Does (quad_start command) limit answers p log r log' → (number_in r ≡ 0 → ⊥)
    → Does (quad_steps command phase) limit answers p log r log'
unfolding quad_steps
quad_stops command phase d n = stop_does _ _ n d

module _ (command : List ℕ) (phase : Steps) {limit : ℕ} {answers : List ℕ} {p r t u : Progress}
    {log log' log'' log''' : List ℕ} (d : Does (quad_start command) limit answers p log r log') where
  -- The data phase, and Standard however it ended.
  pub quad_runs : {m m' : List ℕ} → 0 < limit → number_in r ≡ 0 → Runs phase limit answers r log' m t log'' m'
      → Tried limit answers t log'' u log''' → Runs (quad_steps command phase) limit answers p log m u log''' m'
  unfolding quad_steps
  quad_runs {m = m} some z f c =
      then_runs (does_runs d m)
      (record {
        sound = c.sound;
        state =
            c.state _
            ∙ ap (λ st. standing st (advance standard_mode limit answers (state.with_number 0 st))) f.state
            ∙ sym (tries_on phase standard_mode limit standard_supported standard_begins some answers _ z);
      })

  pub quad_does : 0 < limit → number_in r ≡ 0 → Does phase limit answers r log' t log''
      → Tried limit answers t log'' u log''' → Does (quad_steps command phase) limit answers p log u log'''
  quad_does some z f c = record { sound = c.sound; state = λ m. (quad_runs some z (does_runs f m) c).state }

module _ (command : List ℕ) (phase : Steps) {p q : RegisterBlock} where
  -- The same at a register block.
  pub quad_fails : {e : QspiError} → Goes (quad_start command) p q (Err e) → Goes (quad_steps command phase) p q (Err e)
  unfolding quad_steps
  quad_fails d = stop_goes _ d

  module _ {r s : RegisterBlock} {ended result : Result (Unit {0}) QspiError}
      (d : Goes (quad_start command) p q (Ok tt)) where
    pub quad_goes_on : {m m' : List ℕ} → GoesOn phase q m r m' ended → Closes ended r s result
        → GoesOn (quad_steps command phase) p m s m' result
    quad_goes_on f c =
        let l = lent_then d.lent f.lent in
        record {
          lent = lent_then l c.lent;
          runs =
              quad_runs command phase d.does p.limit.ok refl (rw (d.lent.answers, d.lent.limit) at f.runs)
              (rw (l.answers, l.limit) at (tried c));
        }

    pub quad_goes : Goes phase q r ended → Closes ended r s result → Goes (quad_steps command phase) p s result
    quad_goes f c =
        let l = lent_then d.lent f.lent in
        record {
          lent = lent_then l c.lent;
          does =
              quad_does command phase d.does p.limit.ok refl (rw (d.lent.answers, d.lent.limit) at f.does)
              (rw (l.answers, l.limit) at (tried c));
        }
