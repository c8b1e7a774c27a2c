use borrow.Author.Rules.{rules}
use Rattle.registers.proofs.Field.{shifted_in}
use Rattle.registers.proofs.controller.TransferConfig.disable_lsb_transmit.Goals as goal

pub returns : goal.returns
returns c = shifted_in 19 1 12 _ 0 (search rules)
