use borrow.Author.Rules.{rules}
use Rattle.registers.proofs.Field.{shifted_in}
use Rattle.registers.proofs.controller.TransferConfig.enable_tx_data_delay.Goals as goal

pub returns : goal.returns
returns c = shifted_in 17 1 14 _ 1 (search rules)
