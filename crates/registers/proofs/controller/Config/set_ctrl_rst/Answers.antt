use borrow.Author.Rules.{rules}
use Rattle.registers.proofs.Field.{cast_in}
use Rattle.registers.proofs.controller.Config.set_ctrl_rst.Goals as goal

pub returns : goal.returns
returns c = cast_in 0 1 31 _ (search rules) (search rules)
