use borrow.Author.Rules.{rules}
use Rattle.registers.proofs.Field.{shifted_in}
use Rattle.registers.proofs.controller.Config.enable_ctrl.Goals as goal

pub returns : goal.returns
returns c = shifted_in 31 1 0 _ 1 (search rules)
