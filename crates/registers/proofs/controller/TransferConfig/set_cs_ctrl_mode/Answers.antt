use borrow.Author.Rules.{rules}
use Rattle.registers.proofs.Field.{cast_in}
use Rattle.registers.proofs.controller.TransferConfig.set_cs_ctrl_mode.Goals as goal

pub returns : goal.returns
returns c = cast_in 25 1 6 _ (search rules) (search rules)
