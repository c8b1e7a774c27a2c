use borrow.Author.Rules.{rules}
use Rattle.registers.proofs.Field.{cast_in}
use Rattle.registers.proofs.controller.BitModeTransConfig.set_bus_mode.Goals as goal

pub returns : goal.returns
returns c = cast_in 30 2 0 _ (search rules) (search rules)
