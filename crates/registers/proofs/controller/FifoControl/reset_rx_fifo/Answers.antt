use borrow.Author.Rules.{rules}
use Rattle.registers.proofs.Field.{shifted_in}
use Rattle.registers.proofs.controller.FifoControl.reset_rx_fifo.Goals as goal

pub returns : goal.returns
returns c = shifted_in 16 1 15 _ 1 (search rules)
