-- The quad calls (document 01, "Quad read", "Quad write").
use Rattle.std.specs.Prelude.{true, false, List, ◌++◌, ℕ, ◌-◌, min, take, replicate}
use Rattle.model.specs.Steps.{Steps, then, finally}
use Rattle.config.specs.declared.config.WorkMode.TheVariants.{Standard, Quad}
use Rattle.qspi.specs.Phases.{tx_phase}
use Rattle.mode.specs.Mode.{work_mode_steps}

-- The frame holds at most sixteen bytes: min(dummies, 8) zeros after the first command bytes that there is room for.
unfoldable pub framed : List ℕ → ℕ → List ℕ
framed command dummies = let zeros = min dummies 8 in take (16 - zeros) command ++ replicate zeros 0

-- The modes Quad and Standard, which every chip has.
unfoldable pub quad_mode : Steps
quad_mode = work_mode_steps false Quad

unfoldable pub standard_mode : Steps
standard_mode = work_mode_steps false Standard

-- the command single-line, then mode Quad
unfoldable pub quad_start : List ℕ → Steps
quad_start command = then (tx_phase true command) quad_mode

-- Failing before the data phase, the call stops; afterwards Standard is still tried, and its failure wins.
unfoldable pub quad_steps : List ℕ → Steps → Steps
quad_steps command phase = then (quad_start command) (finally phase standard_mode)
