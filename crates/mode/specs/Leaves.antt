-- Leaving QPI (document 02, request 1).
use Rattle.std.specs.Prelude.{◌≡◌, Bool, true, false, List, [], ◌∷◌, ℕ, Option, None, Some}
use Rattle.model.specs.Steps.{Steps}
use Rattle.model.specs.Run.{Outcome, run}
use Rattle.model.specs.Written.{last_written, Left}
use Rattle.config.specs.declared.config.WorkMode.{WorkMode}
use Rattle.config.specs.declared.config.WorkMode.TheVariants.{Standard, Qpi}
use Rattle.mode.specs.Mode.{work_mode_steps}

-- the last word that a run wrote to 038
abbrev pub last_038 : Outcome → Option ℕ
last_038 o = last_written 0x038 None o.trace

-- After any run of the steps that ends in 0, whatever 038 answered, the last word written to 038 has bit 31 clear.
abbrev pub OutOfQpi : Steps → Type 0
OutOfQpi s =
    (limit room : ℕ) (answers m : List ℕ) → (run s limit false room answers m).number ≡ 0
    → Left 31 1 0 (last_038 (run s limit false room answers m))

-- so after a mode other than Qpi, on every chip
abbrev pub ModesLeaveQpi : Type 0
ModesLeaveQpi = (qpi : Bool) (mode : WorkMode) → (mode ≡ Qpi → ⊥) → OutOfQpi (work_mode_steps qpi mode)

-- a mode where 038 answers all ones
abbrev pub over_ones : WorkMode → Outcome
over_ones mode = run (work_mode_steps true mode) 1 false 5 (0 ∷ 0xFFFFFFFF ∷ 0 ∷ []) []

-- Such runs end in 0; Qpi, which the law is not about, leaves the bit set.
pub record HypothesesMet : Type 0 where
  pub ends : (over_ones Standard).number ≡ 0
  pub word : last_038 (over_ones Standard) ≡ Some 0x4FFFFFFF
  pub other : Standard ≡ Qpi → ⊥
  pub qpi : last_038 (over_ones Qpi) ≡ Some 0xFFFFFFFF
