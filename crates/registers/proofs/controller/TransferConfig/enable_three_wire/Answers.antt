use borrow.Author.Rules.{rules}
use Rattle.registers.proofs.Field.{shifted_in}
use Rattle.registers.proofs.controller.TransferConfig.enable_three_wire.Goals as goal

pub returns : goal.returns
returns c = shifted_in 6 1 25 _ 1 (search rules)
