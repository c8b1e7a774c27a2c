use borrow.Author.Rules.{rules}
use Rattle.registers.proofs.Field.{shifted_in}
use Rattle.registers.proofs.controller.FifoControl.set_tx_fifo_water_mark.Goals as goal

pub returns : goal.returns
returns c = shifted_in 8 8 16 _ _ (search rules)
