use borrow.Author.Rules.{rules}
use Rattle.registers.proofs.Field.{shifted_in}
use Rattle.registers.proofs.controller.TransferConfig.disable_three_wire.Goals as goal

pub returns : goal.returns
returns c = shifted_in 6 1 25 _ 0 (search rules)
