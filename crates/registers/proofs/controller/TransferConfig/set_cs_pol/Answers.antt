use borrow.Author.Rules.{rules}
use Rattle.registers.proofs.Field.{cast_in}
use Rattle.registers.proofs.controller.TransferConfig.set_cs_pol.Goals as goal

pub returns : goal.returns
returns c = cast_in 29 1 2 _ (search rules) (search rules)
