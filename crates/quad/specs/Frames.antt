-- What the parts of the quad calls promise.
use Rattle.std.specs.Prelude.{◌≡◌, List, ◌++◌, ℕ, ◌-◌, length, replicate, Result}
use Rattle.std.specs.Int.NonZero.{non_zero_u32_get}
use Rattle.model.specs.State.{with_number, standing, advance}
use Rattle.config.specs.declared.error.QspiError.{QspiError}
use Rattle.access.specs.declared.block.RegisterBlock.{RegisterBlock}
use Rattle.access.specs.Of.{state_of}
use Rattle.access.specs.Does.{Sound}
use Rattle.access.specs.Makes.{Lent}
use Rattle.access.specs.Makes.{progress_of}
use Rattle.quad.specs.declared.frame.QuadFrame.{QuadFrame}
use Rattle.quad.specs.Quad.{framed, standard_mode}

-- The frame, with zeros behind it up to sixteen bytes.
pub record Frames (command : List ℕ) (dummies : ℕ) (r : QuadFrame) : Type 0 where
  pub filled : r.bytes ≡ framed command dummies ++ replicate (16 - length (framed command dummies)) 0
  pub counted : r.length ≡ length (framed command dummies)

-- Standard was tried, from the run p whose data phase ended so, to the run r; where it is done the call's end stands.
pub record Closes (ended : Result (Unit {0}) QspiError) (p r : RegisterBlock)
    (result : Result (Unit {0}) QspiError) : Type 0 where
  pub lent : Lent p r
  pub sound : Sound (progress_of result r)
  pub state : (m : List ℕ)
      → state_of (progress_of result r) r.log.now m
      ≡ standing (state_of (progress_of ended p) p.log.now m)
      (advance standard_mode (non_zero_u32_get p.limit) p.answers.words.now
      (with_number 0 (state_of (progress_of ended p) p.log.now m)))
