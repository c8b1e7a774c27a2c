-- The code's data lines of a mode, and whether it is three-wire. The row of QPI is not asked for.
use Rattle.std.specs.Prelude.{Bool, true, false}
use Rattle.changes.specs.declared.modes.Lines.{Lines}
use Rattle.changes.specs.declared.modes.Lines as of
use Rattle.config.specs.declared.config.WorkMode.{WorkMode}
use Rattle.config.specs.declared.config.WorkMode.TheVariants.{Standard, ThreeWire, Dual, DualIO, Quad, QuadIO, Qpi}

abbrev pub data_lines : WorkMode → Lines
data_lines Standard = of.TheVariants.One
data_lines ThreeWire = of.TheVariants.One
data_lines Dual = of.TheVariants.Two
data_lines DualIO = of.TheVariants.Two
data_lines Quad = of.TheVariants.Four
data_lines QuadIO = of.TheVariants.Four
data_lines Qpi = of.TheVariants.Qpi

abbrev pub three_wire : WorkMode → Bool
three_wire Standard = false
three_wire ThreeWire = true
three_wire Dual = false
three_wire DualIO = false
three_wire Quad = false
three_wire QuadIO = false
three_wire Qpi = false
