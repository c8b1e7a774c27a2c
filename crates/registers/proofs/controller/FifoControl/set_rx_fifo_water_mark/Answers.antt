use borrow.Author.Rules.{rules}
use Rattle.registers.proofs.Field.{shifted_in}
use Rattle.registers.proofs.controller.FifoControl.set_rx_fifo_water_mark.Goals as goal

pub returns : goal.returns
returns c = shifted_in 24 8 0 _ _ (search rules)
