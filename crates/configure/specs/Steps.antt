-- The parts of an opening's steps (document 01, "Steps"). Each register step is one change.
use Rattle.std.specs.Prelude.{Bool, true, false, cond, ℕ, ◌+◌, leb, Option, None, Some}
use Rattle.model.specs.Field.{set_field}
use Rattle.model.specs.Steps.{Steps, then, change, pause}
use Rattle.model.specs.Steps.End.{done}
use Rattle.model.specs.Steps.Steps.{end}
use Rattle.registers.specs.Setting.{ctrl_mode_bits, phase_bits, polarity_bits, cs_level_bits, cs_pin_bits}
use Rattle.registers.specs.declared.setting.CtrlMode.{CtrlMode}
use Rattle.config.specs.declared.spi.Mode.{Mode}
use Rattle.config.specs.declared.config.CsConfig.{CsConfig}
use Rattle.config.specs.declared.config.WorkMode.{WorkMode}
use Rattle.config.specs.declared.config.WorkMode.TheVariants.{Standard, ThreeWire, Dual, DualIO, Quad, QuadIO, Qpi}
use Rattle.config.specs.declared.config.QspiConfig.{QspiConfig}
use Rattle.clock.specs.declared.DividerSelect.{DividerSelect}
use Rattle.clock.specs.declared.DividerSelect.TheVariants.{Cdr1, Cdr2}

-- clock word (divider, both enables), reset asserted, delay 500, reset released
unfoldable pub enable_module_clock : ℕ → ℕ → Steps
enable_module_clock instance div =
    let place = 0x1000 + instance in
    then (change place (λ w. set_field 12 1 1 (set_field 8 1 1 (set_field 0 5 div w))))
    (then (change place (set_field 13 1 0)) (then (pause 500) (change place (set_field 13 1 1))))

-- 024 (Cdr1: bit 12 clear and bits 8 to 11; Cdr2: bit 12 set and bits 0 to 7)
unfoldable pub clock_divider : DividerSelect → Steps
clock_divider (Cdr1 c) = change 0x024 (λ w. set_field 8 4 c (set_field 12 1 0 w))
clock_divider (Cdr2 c) = change 0x024 (λ w. set_field 0 8 c (set_field 12 1 1 w))

-- 004 set bit 31; delay 500; 024; delay 100
unfoldable pub controller_clock : DividerSelect → Steps
controller_clock divider = then (change 0x004 (set_field 31 1 1)) (then (pause 500) (then (clock_divider divider) (pause 100)))

-- 004 bit 1 control mode, bit 31 clear, bits 0 and 7 set; 010 becomes 0
unfoldable pub controller_on : CtrlMode → Steps
controller_on mode =
    then (change 0x004 (λ w. set_field 7 1 1 (set_field 0 1 1 (set_field 31 1 0 (set_field 1 1 (ctrl_mode_bits mode) w))))) (change 0x010 (λ w. 0))

-- set exactly if no chip-select record
abbrev pub bit6 : Option CsConfig → ℕ
bit6 None = 1
bit6 (Some cs) = 0

-- with such a record 008 again for bits 2, 7 and 4 to 5
unfoldable pub chip_select : Option CsConfig → Steps
chip_select None = end done
chip_select (Some cs) =
    change 0x008 (λ w. set_field 4 2 (cs_pin_bits cs.pin) (set_field 7 1 (cs_level_bits cs.level) (set_field 2 1 (polarity_bits cs.polarity) w)))

-- 008 phase, polarity, bit 6, bits 8 and 14 set, bit 12 exactly if LSB first
unfoldable pub transfer_format : Mode → Option CsConfig → Bool → Steps
transfer_format mode cs lsb =
    change 0x008
    (λ w.
    set_field 12 1 (cond lsb 1 0)
    (set_field 14 1 1
    (set_field 8 1 1 (set_field 6 1 (bit6 cs) (set_field 1 1 (polarity_bits mode.polarity) (set_field 0 1 (phase_bits mode.phase) w))))))

-- 008; 008 again; 008 bit 13 set exactly if the clock is slow, bit 11 clear
unfoldable pub transfer_config : Mode → Option CsConfig → Bool → Bool → Steps
transfer_config mode cs lsb slow =
    then (transfer_format mode cs lsb) (then (chip_select cs) (change 0x008 (λ w. set_field 11 1 0 (set_field 13 1 (cond slow 1 0) w))))

-- 3 (bit mode) or 0 into 040 bits 0 to 1
unfoldable pub bus_mode : Bool → Steps
bus_mode bits = change 0x040 (set_field 0 2 (cond bits 3 0))

-- The work mode: ThreeWire without bit mode sets 008 bit 25 too; Dual, DualIO set 038 bit 28; Quad, QuadIO bit 29; Qpi bit 31.
unfoldable pub configure_work_mode : WorkMode → Bool → Steps
configure_work_mode Standard bits = bus_mode bits
configure_work_mode ThreeWire true = bus_mode true
configure_work_mode ThreeWire false = then (bus_mode false) (change 0x008 (set_field 25 1 1))
configure_work_mode Dual bits = change 0x038 (set_field 28 1 1)
configure_work_mode DualIO bits = change 0x038 (set_field 28 1 1)
configure_work_mode Quad bits = change 0x038 (set_field 29 1 1)
configure_work_mode QuadIO bits = change 0x038 (set_field 29 1 1)
configure_work_mode Qpi bits = change 0x038 (set_field 31 1 1)

-- the controller's registers, at a rate and with an oscillator: the clock is slow exactly if rate ≤ oscillator
unfoldable pub register_steps : QspiConfig → DividerSelect → ℕ → ℕ → Steps
register_steps config divider rate oscillator =
    then (controller_clock divider)
    (then (controller_on config.ctrl_mode)
    (then (transfer_config config.mode config.cs_config config.lsb_first (leb rate oscillator))
    (configure_work_mode config.work_mode config.bit_mode_en)))

-- 018 bits 31 and 15, both watermarks 32; delay 100; 014 becomes all ones
unfoldable pub fifo_steps : Steps
fifo_steps =
    then (change 0x018 (λ w. set_field 0 8 32 (set_field 16 8 32 (set_field 15 1 1 (set_field 31 1 1 w)))))
    (then (pause 100) (change 0x014 (λ w. 0xffffffff)))
