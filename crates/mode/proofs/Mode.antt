-- The changes of a mode.
use mathlib.Core.Path.{◌≡◌, refl, sym, ap, ◌∙◌}
use mathlib.Core.Bool.{Bool, true, false, cond}
use Rattle.model.specs.Field.{set_field}
use Rattle.model.specs.Steps.{Steps, then, change}
use Rattle.config.specs.Config.{is_qpi}
use Rattle.config.specs.declared.config.WorkMode.{WorkMode}
use Rattle.config.specs.declared.config.WorkMode.TheVariants.{Standard, ThreeWire, Dual, DualIO, Quad, QuadIO, Qpi}
use Rattle.changes.specs.Of.{lined}
use Rattle.mode.specs.Mode.{lines, qpi_mode, mode_changes}
use Rattle.mode.specs.Of.{data_lines, three_wire}

module _ (qpi : Bool) (mode : WorkMode) where
  -- the two changes of the code for a mode that is not QPI
  abbrev pub two : Steps
  two = then (change 0x038 (lined (data_lines mode))) (change 0x008 (set_field 25 1 (cond (three_wire mode) 1 0)))

  -- the steps of the code for a mode that is QPI or not
  steps : Bool → Steps
  steps b = cond b (qpi_mode qpi) two

two_ways : (qpi : Bool) (mode : WorkMode) → mode_changes qpi mode ≡ steps qpi mode (is_qpi mode)
unfolding mode_changes lines steps
two_ways qpi Standard = refl
two_ways qpi ThreeWire = refl
two_ways qpi Dual = refl
two_ways qpi DualIO = refl
two_ways qpi Quad = refl
two_ways qpi QuadIO = refl
two_ways qpi Qpi = refl

module _ (qpi : Bool) (mode : WorkMode) {b : Bool} (e : b ≡ is_qpi mode) where
  pub is_qpi_lem : b ≡ true → mode_changes qpi mode ≡ qpi_mode qpi
  unfolding steps
  is_qpi_lem t = two_ways qpi mode ∙ ap (steps qpi mode) (sym e ∙ t)

  pub is_not : b ≡ false → mode_changes qpi mode ≡ two qpi mode
  unfolding steps
  is_not f = two_ways qpi mode ∙ ap (steps qpi mode) (sym e ∙ f)
