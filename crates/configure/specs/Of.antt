-- What the code's choices stand for in the definitions.
use Rattle.std.specs.Prelude.{Bool, true, false, Option, None, Some}
use Rattle.registers.specs.declared.setting.BusMode.{BusMode}
use Rattle.registers.specs.declared.setting.BusMode.TheVariants.{StandardBytes, StandardBits}
use Rattle.registers.specs.declared.setting.CsCtrlMode.{CsCtrlMode}
use Rattle.registers.specs.declared.setting.CsCtrlMode.TheVariants.{SpiController, Software}
use Rattle.config.specs.declared.config.CsConfig.{CsConfig}

-- who controls the chip select: the software without a chip-select record
abbrev pub cs_ctrl_mode : Option CsConfig → CsCtrlMode
cs_ctrl_mode None = Software
cs_ctrl_mode (Some cs) = SpiController

-- bits or bytes
abbrev pub bus_mode_in : Bool → BusMode
bus_mode_in true = StandardBits
bus_mode_in false = StandardBytes
