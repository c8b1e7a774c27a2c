use borrow.Author.Rules.{rules}
use Rattle.registers.proofs.Field.{shifted_in}
use Rattle.registers.proofs.controller.TransferConfig.disable_rx_inner_delay.Goals as goal

pub returns : goal.returns
returns c = shifted_in 20 1 11 _ 0 (search rules)
