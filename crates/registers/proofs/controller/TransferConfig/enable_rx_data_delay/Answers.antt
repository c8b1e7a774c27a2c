use borrow.Author.Rules.{rules}
use Rattle.registers.proofs.Field.{shifted_in}
use Rattle.registers.proofs.controller.TransferConfig.enable_rx_data_delay.Goals as goal

pub returns : goal.returns
returns c = shifted_in 18 1 13 _ 0 (search rules)
