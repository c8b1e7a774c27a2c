-- SPI modes.
use Rattle.std.specs.Prelude.{Bool, true, false}
use Rattle.registers.specs.declared.setting.Phase.{Phase}
use Rattle.registers.specs.declared.setting.Phase.TheVariants.{CaptureOnFirstTransition, CaptureOnSecondTransition}
use Rattle.registers.specs.declared.setting.Polarity.TheVariants.{IdleLow}
use Rattle.config.specs.declared.spi.Mode.{Mode}

-- SPI mode 0
abbrev pub mode0 : Mode
mode0 = record { polarity = IdleLow; phase = CaptureOnFirstTransition }

-- does the phase capture on the first transition
abbrev pub on_first : Phase → Bool
on_first CaptureOnFirstTransition = true
on_first CaptureOnSecondTransition = false

-- SPI modes 0 and 2
abbrev pub supported : Mode → Bool
supported m = on_first m.phase
