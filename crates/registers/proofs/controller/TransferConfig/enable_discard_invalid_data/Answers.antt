use borrow.Author.Rules.{rules}
use Rattle.registers.proofs.Field.{shifted_in}
use Rattle.registers.proofs.controller.TransferConfig.enable_discard_invalid_data.Goals as goal

pub returns : goal.returns
returns c = shifted_in 23 1 8 _ 1 (search rules)
