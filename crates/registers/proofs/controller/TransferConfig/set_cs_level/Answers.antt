use borrow.Author.Rules.{rules}
use Rattle.registers.proofs.Field.{cast_in}
use Rattle.registers.proofs.controller.TransferConfig.set_cs_level.Goals as goal

pub returns : goal.returns
returns c = cast_in 24 1 7 _ (search rules) (search rules)
