-- What the changes of an opening and a release make of a word read.
use Rattle.std.specs.Prelude.{Bool, cond, ℕ}
use Rattle.model.specs.Field.{set_field}
use Rattle.registers.specs.Setting.{ctrl_mode_bits, phase_bits, polarity_bits, bus_mode_bits}
use Rattle.registers.specs.Setting.{cs_level_bits, cs_ctrl_mode_bits, cs_pin_bits}
use Rattle.registers.specs.declared.setting.CtrlMode.{CtrlMode}
use Rattle.registers.specs.declared.setting.Phase.{Phase}
use Rattle.registers.specs.declared.setting.Polarity.{Polarity}
use Rattle.registers.specs.declared.setting.CsCtrlMode.{CsCtrlMode}
use Rattle.registers.specs.declared.setting.CsLevel.{CsLevel}
use Rattle.registers.specs.declared.setting.CsPin.{CsPin}
use Rattle.registers.specs.declared.setting.BusMode.{BusMode}

-- the clock word: divider in bits 0 to 4, clock enable bit 8, bus enable 12, reset released 13
abbrev pub clock_on : ℕ → ℕ → ℕ
clock_on div w = set_field 12 1 1 (set_field 8 1 1 (set_field 0 5 div w))

abbrev pub reset_on : ℕ → ℕ
reset_on w = set_field 13 1 0 w

abbrev pub reset_off : ℕ → ℕ
reset_off w = set_field 13 1 1 w

abbrev pub clock_off : ℕ → ℕ
clock_off w = set_field 13 1 0 (set_field 12 1 0 (set_field 8 1 0 w))

-- the controller, at 004, 024, 010, 018 and 014
abbrev pub controller_reset : ℕ → ℕ
controller_reset w = set_field 31 1 1 w

abbrev pub divided_by_1 : ℕ → ℕ → ℕ
divided_by_1 div w = set_field 8 4 div (set_field 12 1 0 w)

abbrev pub divided_by_2 : ℕ → ℕ → ℕ
divided_by_2 div w = set_field 0 8 div (set_field 12 1 1 w)

abbrev pub controller_on : CtrlMode → ℕ → ℕ
controller_on mode w = set_field 7 1 1 (set_field 0 1 1 (set_field 31 1 0 (set_field 1 1 (ctrl_mode_bits mode) w)))

abbrev pub interrupts_off : ℕ → ℕ
interrupts_off w = 0

abbrev pub fifos_reset : ℕ → ℕ
fifos_reset w = set_field 0 8 32 (set_field 16 8 32 (set_field 15 1 1 (set_field 31 1 1 w)))

abbrev pub interrupts_cleared : ℕ → ℕ
interrupts_cleared w = 0xffffffff

-- how transfers go, at 008
abbrev pub formatted : Phase → Polarity → CsCtrlMode → Bool → ℕ → ℕ
formatted phase polarity cs lsb w =
    set_field 12 1 (cond lsb 1 0)
    (set_field 14 1 1
    (set_field 6 1 (cs_ctrl_mode_bits cs)
    (set_field 1 1 (polarity_bits polarity) (set_field 0 1 (phase_bits phase) (set_field 8 1 1 w)))))

abbrev pub chip_selected : Polarity → CsLevel → CsPin → ℕ → ℕ
chip_selected polarity level pin w =
    set_field 4 2 (cs_pin_bits pin) (set_field 7 1 (cs_level_bits level) (set_field 2 1 (polarity_bits polarity) w))

abbrev pub sampling : Bool → ℕ → ℕ
sampling slow w = set_field 11 1 0 (set_field 13 1 (cond slow 1 0) w)

-- bits or bytes, at 040
abbrev pub bus_set : BusMode → ℕ → ℕ
bus_set mode w = set_field 0 2 (bus_mode_bits mode) w

-- the lines of the work mode that a bus opens in, at 038
abbrev pub dual_on : ℕ → ℕ
dual_on w = set_field 28 1 1 w

abbrev pub quad_on : ℕ → ℕ
quad_on w = set_field 29 1 1 w

abbrev pub qpi_on : ℕ → ℕ
qpi_on w = set_field 31 1 1 w
