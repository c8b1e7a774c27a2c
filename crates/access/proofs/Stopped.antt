-- A `?` that leaves: what was done ends with the error that it was given.
use mathlib.Core.Path.{◌≡◌, refl}
use native.Mathlib.Omega.{arith}
use Rattle.std.specs.Prelude.{Result, Ok, Err}
use Rattle.std.specs.Result.{IsErrAnd}
use Rattle.std.proofs.lemmas.Result.{err_from_is_err_and}
use Rattle.model.specs.Steps.{Steps, then}
use Rattle.model.specs.Steps.End.{done}
use Rattle.model.specs.Steps.Steps.{end}
use Rattle.config.specs.declared.error.QspiError.{QspiError}
use Rattle.access.specs.declared.block.RegisterBlock.{RegisterBlock}
use Rattle.access.specs.Makes.{Makes}
use Rattle.access.proofs.Sequence.{nothing_works}
use Rattle.access.proofs.Makes.{stop_makes, lent_same}

pub stopped_makes : {f : Steps} (g : Steps) {b r : RegisterBlock} {e : QspiError} {ended : Result (Unit {0}) QspiError}
    → IsErrAnd ended (λ y. y ≡ e) → Makes f b r (Err e) → Makes (then f g) b r ended
stopped_makes g {ended = ended} l d = let p = err_from_is_err_and ended l in rw (p.1, p.2) (stop_makes g d)

-- Nothing was done.
pub nothing_makes : {b : RegisterBlock} → Makes (end done) b b (Ok tt)
nothing_makes {b} =
    record {
      lent = lent_same b;
      tally = refl;
      grows = omega arith;
      works = λ t few. nothing_works few;
    }
