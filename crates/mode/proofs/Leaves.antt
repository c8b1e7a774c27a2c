-- A mode other than Qpi leaves 038 bit 31 clear.
use mathlib.Core.Path.{◌≡◌, refl, ap}
use mathlib.Core.Bool.{Bool}
use Prim.Native.Nat.{ℕ}
use Rattle.std.specs.Prelude.{Option, Some}
use Rattle.model.specs.Field.{get_field, set_field}
use Rattle.model.specs.Steps.{then, change, wait_for}
use Rattle.model.specs.Run.{entered, answered, poll, run}
use Rattle.model.specs.Written.{rewritten, last_written, Left, Leaves}
use Rattle.model.proofs.Field.{field_changes}
use Rattle.model.proofs.Written.{done_leaves}
use Rattle.config.specs.declared.config.WorkMode.{WorkMode}
use Rattle.config.specs.declared.config.WorkMode.TheVariants.{Standard, ThreeWire, Dual, DualIO, Quad, QuadIO, Qpi}
use Rattle.mode.specs.Mode.{lines, qpi_mode, mode_changes, work_mode_steps}
use Rattle.mode.specs.Leaves.{ModesLeaveQpi, HypothesesMet}

-- a word with bit 31 cleared
cleared : (word : ℕ) → Left 31 1 0 (Some (set_field 31 1 0 word))
cleared word = ap Some (field_changes 31 1 0 word).puts

-- so from any word before
lines_leave : (quad dual three : ℕ) (w : Option ℕ) → Leaves 0x038 31 1 0 w (lines quad dual three)
unfolding lines then change rewritten
lines_leave quad dual three w = λ word there. cleared _

pub mode_leaves : (qpi : Bool) (mode : WorkMode) → (mode ≡ Qpi → ⊥) → (w : Option ℕ)
    → Leaves 0x038 31 1 0 w (work_mode_steps qpi mode)
unfolding work_mode_steps mode_changes wait_for then
mode_leaves qpi Standard h w = λ count. lines_leave 0 0 0 w
mode_leaves qpi ThreeWire h w = λ count. lines_leave 0 0 1 w
mode_leaves qpi Dual h w = λ count. lines_leave 0 1 0 w
mode_leaves qpi DualIO h w = λ count. lines_leave 0 1 0 w
mode_leaves qpi Quad h w = λ count. lines_leave 1 0 0 w
mode_leaves qpi QuadIO h w = λ count. lines_leave 1 0 0 w
mode_leaves qpi Qpi h w = absurd (h refl)

pub modes_leave_qpi : ModesLeaveQpi
modes_leave_qpi qpi mode h = done_leaves 0x038 31 1 0 _ (work_mode_steps qpi mode) (mode_leaves qpi mode h _)

pub hypotheses_met : HypothesesMet
unfolding get_field set_field then change wait_for entered answered poll run rewritten last_written lines qpi_mode
    mode_changes work_mode_steps
hypotheses_met = record { ends = refl; word = refl; other = λ e. cc; qpi = refl }
