-- The number that a field holds for each setting (document 01, "Steps"), and the setting of a flag.
use Rattle.std.specs.Prelude.{Bool, true, false, ℕ}
use Rattle.registers.specs.declared.setting.CtrlMode.{CtrlMode}
use Rattle.registers.specs.declared.setting.CtrlMode.TheVariants.{Slave, Master}
use Rattle.registers.specs.declared.setting.CsLevel.{CsLevel}
use Rattle.registers.specs.declared.setting.CsLevel.TheVariants.{Low, High}
use Rattle.registers.specs.declared.setting.CsCtrlMode.{CsCtrlMode}
use Rattle.registers.specs.declared.setting.CsCtrlMode.TheVariants.{SpiController, Software}
use Rattle.registers.specs.declared.setting.CsPin.{CsPin}
use Rattle.registers.specs.declared.setting.CsPin.TheVariants.{Cs0, Cs1}
use Rattle.registers.specs.declared.setting.ClockDivSel.{ClockDivSel}
use Rattle.registers.specs.declared.setting.ClockDivSel.TheVariants.{Div1, Div2}
use Rattle.registers.specs.declared.setting.BusMode.{BusMode}
use Rattle.registers.specs.declared.setting.BusMode.TheVariants.{StandardBytes, QuadBits, StandardBits}
use Rattle.registers.specs.declared.setting.Polarity.{Polarity}
use Rattle.registers.specs.declared.setting.Polarity.TheVariants.{IdleLow, IdleHigh}
use Rattle.registers.specs.declared.setting.Phase.{Phase}
use Rattle.registers.specs.declared.setting.Phase.TheVariants.{CaptureOnFirstTransition, CaptureOnSecondTransition}

-- control mode, 004 bit 1
abbrev pub ctrl_mode_bits : CtrlMode → ℕ
ctrl_mode_bits Slave = 0
ctrl_mode_bits Master = 1

-- chip-select level, 008 bit 7
abbrev pub cs_level_bits : CsLevel → ℕ
cs_level_bits Low = 0
cs_level_bits High = 1

-- chip-select control, 008 bit 6: set if there is no chip-select record
abbrev pub cs_ctrl_mode_bits : CsCtrlMode → ℕ
cs_ctrl_mode_bits SpiController = 0
cs_ctrl_mode_bits Software = 1

-- chip-select pin, 008 bits 4 to 5
abbrev pub cs_pin_bits : CsPin → ℕ
cs_pin_bits Cs0 = 0
cs_pin_bits Cs1 = 1

-- divider in use, 024 bit 12: clear for Cdr1, set for Cdr2
abbrev pub clock_div_sel_bits : ClockDivSel → ℕ
clock_div_sel_bits Div1 = 0
clock_div_sel_bits Div2 = 1

-- bus mode, 040 bits 0 to 1: 3 for bit mode, else 0
abbrev pub bus_mode_bits : BusMode → ℕ
bus_mode_bits StandardBytes = 0
bus_mode_bits QuadBits = 2
bus_mode_bits StandardBits = 3

-- polarity, 008 bit 1 for the clock and bit 2 for the chip select
abbrev pub polarity_bits : Polarity → ℕ
polarity_bits IdleLow = 0
polarity_bits IdleHigh = 1

-- phase, 008 bit 0
abbrev pub phase_bits : Phase → ℕ
phase_bits CaptureOnFirstTransition = 0
phase_bits CaptureOnSecondTransition = 1

-- the setting whose number is the flag's bit
abbrev pub ctrl_mode_of : Bool → CtrlMode
ctrl_mode_of true = Master
ctrl_mode_of false = Slave

abbrev pub level_of : Bool → CsLevel
level_of true = High
level_of false = Low

abbrev pub pin_of : Bool → CsPin
pin_of true = Cs1
pin_of false = Cs0

abbrev pub polarity_of : Bool → Polarity
polarity_of true = IdleHigh
polarity_of false = IdleLow

abbrev pub phase_of : Bool → Phase
phase_of true = CaptureOnSecondTransition
phase_of false = CaptureOnFirstTransition
