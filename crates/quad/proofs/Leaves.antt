-- A quad call that ends in 0 leaves 038 bit 31 clear: its mode Standard does.
use mathlib.Core.Path.{refl}
use mathlib.Core.Bool.{false}
use mathlib.Core.List.{List}
use Prim.Native.Nat.{ℕ}
use Rattle.std.specs.Prelude.{Option}
use Rattle.model.specs.Field.{get_field, set_field}
use Rattle.model.specs.Steps.{Steps, then, finally, change, wait_for}
use Rattle.model.specs.Run.{entered, answered, poll, run}
use Rattle.model.specs.Written.{rewritten, last_written, Leaves}
use Rattle.model.proofs.Written.{done_leaves, then_leaves, finally_leaves}
use Rattle.config.specs.declared.config.WorkMode.TheVariants.{Standard}
use Rattle.qspi.specs.Phases.{gots, tx_phase, rx_phase}
use Rattle.mode.specs.Mode.{lines, mode_changes, work_mode_steps}
use Rattle.mode.proofs.Leaves.{mode_leaves}
use Rattle.quad.specs.Quad.{quad_mode, standard_mode, quad_start, quad_steps}
use Rattle.quad.specs.Leaves.{QuadCallsLeaveQpi, LeavesMet}

pub quad_leaves : (command : List ℕ) (phase : Steps) (w : Option ℕ)
    → Leaves 0x038 31 1 0 w (quad_steps command phase)
unfolding quad_steps standard_mode
quad_leaves command phase w =
    let standard = mode_leaves false Standard (λ e. cc) in
    then_leaves 0x038 31 1 0 (quad_start command) (finally phase standard_mode) w
    (λ v. finally_leaves 0x038 31 1 0 phase standard_mode v standard)

pub quad_calls_leave_qpi : QuadCallsLeaveQpi
quad_calls_leave_qpi command phase =
    done_leaves 0x038 31 1 0 _ (quad_steps command phase) (quad_leaves command phase _)

pub leaves_met : LeavesMet
unfolding get_field set_field then finally change wait_for entered answered poll run rewritten last_written lines
    mode_changes work_mode_steps gots tx_phase rx_phase quad_mode standard_mode quad_start quad_steps
leaves_met = record { ends = refl; word = refl }
