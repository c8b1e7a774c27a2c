use borrow.Author.Rules.{rules}
use Rattle.registers.proofs.Field.{cast_in}
use Rattle.registers.proofs.controller.Config.set_ctrl_mode.Goals as goal

pub returns : goal.returns
returns c = cast_in 30 1 1 _ (search rules) (search rules)
