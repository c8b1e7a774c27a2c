use mathlib.Core.Path.{ap}
use mathlib.Core.Bool.{not}
use lib.Dec.{eqb}
use Rattle.registers.proofs.Field.{shifted_out}
use Rattle.registers.proofs.controller.TransferConfig.start.Goals as goal

pub returns : goal.returns
returns c = ap (λ n. not (eqb n 0)) (shifted_out 31 1 _)
