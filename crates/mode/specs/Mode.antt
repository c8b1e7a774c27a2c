-- The steps of a mode (document 01, "Mode", as document 02, request 1, changes it).
use Rattle.std.specs.Prelude.{Bool, true, false, ℕ}
use Rattle.model.specs.Field.{set_field}
use Rattle.model.specs.Wait.Cause.{start}
use Rattle.model.specs.Steps.{Steps, then, change, wait_for}
use Rattle.model.specs.Steps.End.{unsupported}
use Rattle.model.specs.Steps.Steps.{end}
use Rattle.config.specs.declared.config.WorkMode.{WorkMode}
use Rattle.config.specs.declared.config.WorkMode.TheVariants.{Standard, ThreeWire, Dual, DualIO, Quad, QuadIO, Qpi}

-- 038 bits 29 and 28, and by request 1 bit 31 clear in the same change; then 008 bit 25
unfoldable pub lines : ℕ → ℕ → ℕ → Steps
lines quad dual three =
    then (change 0x038 (λ w. set_field 31 1 0 (set_field 28 1 dual (set_field 29 1 quad w))))
    (change 0x008 (set_field 25 1 three))

-- 038 bits 29 and 31 only; unsupported on a chip without QPI
unfoldable pub qpi_mode : Bool → Steps
qpi_mode true = change 0x038 (λ w. set_field 31 1 1 (set_field 29 1 1 w))
qpi_mode false = end unsupported

-- what a mode changes; `qpi`: the chip has it
unfoldable pub mode_changes : Bool → WorkMode → Steps
mode_changes qpi Standard = lines 0 0 0
mode_changes qpi ThreeWire = lines 0 0 1
mode_changes qpi Dual = lines 0 1 0
mode_changes qpi DualIO = lines 0 1 0
mode_changes qpi Quad = lines 1 0 0
mode_changes qpi QuadIO = lines 1 0 0
mode_changes qpi Qpi = qpi_mode qpi

-- first the wait for START clear
unfoldable pub work_mode_steps : Bool → WorkMode → Steps
work_mode_steps qpi mode = then (wait_for start) (mode_changes qpi mode)
