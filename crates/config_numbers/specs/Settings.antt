-- A configuration whose settings are numbers and flags.
use Rattle.std.specs.Prelude.{Bool, true, false, ℕ, Option, Some, None}
use Rattle.registers.specs.declared.setting.CtrlMode.{CtrlMode}
use Rattle.registers.specs.Setting.{polarity_of, phase_of, level_of, pin_of}
use Rattle.config.specs.declared.spi.Mode as spi
use Rattle.config.specs.declared.config.CsConfig.{CsConfig}
use Rattle.config.specs.declared.config.QspiConfig.{QspiConfig}
use Rattle.config.specs.declared.config.WorkMode.{WorkMode}
pub use Rattle.registers.specs.Setting.{ctrl_mode_of}

-- the chip-select record, if there is one
abbrev pub cs_of : Bool → Bool → Bool → Bool → Option CsConfig
cs_of true high level second =
    Some (record { polarity = polarity_of high; level = level_of level; pin = pin_of second })
cs_of false high level second = None

abbrev pub mode_of : Bool → Bool → spi.Mode
mode_of high second = record { polarity = polarity_of high; phase = phase_of second }

-- no configuration without a work mode
abbrev pub config_of : Option WorkMode → ℕ → spi.Mode → CtrlMode → Bool → Bool → Option CsConfig → Option QspiConfig
config_of (Some work) freq spi ctrl bits lsb cs =
    Some (record {
      freq = freq;
      mode = spi;
      ctrl_mode = ctrl;
      work_mode = work;
      bit_mode_en = bits;
      lsb_first = lsb;
      cs_config = cs;
    })
config_of None freq spi ctrl bits lsb cs = None
