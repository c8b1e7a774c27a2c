-- The configurations of config.rs, and the work modes by number.
use Rattle.std.specs.Prelude.{Bool, true, false, List, [], ◌∷◌, ℕ, Option, None, Some, slice_get}
use Rattle.registers.specs.declared.setting.CtrlMode.TheVariants.{Master}
use Rattle.registers.specs.declared.setting.Polarity.TheVariants.{IdleHigh}
use Rattle.registers.specs.declared.setting.CsLevel.TheVariants.{Low}
use Rattle.registers.specs.declared.setting.CsPin.TheVariants.{Cs0}
use Rattle.config.specs.declared.config.WorkMode.{WorkMode}
use Rattle.config.specs.declared.config.WorkMode.TheVariants.{Standard, ThreeWire, Dual, DualIO, Quad, QuadIO, Qpi}
use Rattle.config.specs.declared.config.QspiConfig.{QspiConfig}
use Rattle.config.specs.Spi.{mode0}

-- the default: 10 MHz, and the controller drives Cs0
abbrev pub default_config : QspiConfig
default_config =
    record {
      freq = 10_000_000;
      mode = mode0;
      ctrl_mode = Master;
      work_mode = Standard;
      bit_mode_en = false;
      lsb_first = false;
      cs_config = Some (record { polarity = IdleHigh; level = Low; pin = Cs0 });
    }

-- a single-line SPI-NOR bus
abbrev pub nor_flash : QspiConfig
nor_flash =
    record {
      freq = 100_000_000;
      mode = mode0;
      ctrl_mode = Master;
      work_mode = Standard;
      bit_mode_en = false;
      lsb_first = false;
      cs_config = None;
    }

-- a single-line SPI-NAND bus: the same
abbrev pub nand_flash : QspiConfig
nand_flash = nor_flash

-- is it the one mode that a chip may lack
abbrev pub is_qpi : WorkMode → Bool
is_qpi Standard = false
is_qpi ThreeWire = false
is_qpi Dual = false
is_qpi DualIO = false
is_qpi Quad = false
is_qpi QuadIO = false
is_qpi Qpi = true

-- `WorkMode` order (document 01, kind 7 of a sheet)
abbrev pub work_modes : List WorkMode
work_modes = Standard ∷ ThreeWire ∷ Dual ∷ DualIO ∷ Quad ∷ QuadIO ∷ Qpi ∷ []

-- the mode of a number, 0 to 6
abbrev pub work_mode_of : ℕ → Option WorkMode
work_mode_of = slice_get work_modes
