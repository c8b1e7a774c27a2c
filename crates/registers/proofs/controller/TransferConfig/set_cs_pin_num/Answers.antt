use borrow.Author.Rules.{rules}
use Rattle.registers.proofs.Field.{cast_in}
use Rattle.registers.proofs.controller.TransferConfig.set_cs_pin_num.Goals as goal

pub returns : goal.returns
returns c = cast_in 26 2 4 _ (search rules) (search rules)
