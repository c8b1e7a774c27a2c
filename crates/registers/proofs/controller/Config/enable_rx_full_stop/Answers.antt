use borrow.Author.Rules.{rules}
use Rattle.registers.proofs.Field.{shifted_in}
use Rattle.registers.proofs.controller.Config.enable_rx_full_stop.Goals as goal

pub returns : goal.returns
returns c = shifted_in 24 1 7 _ 1 (search rules)
