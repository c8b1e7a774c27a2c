use Rattle.registers.proofs.Field.{shifted_out, shifted_out_fits}
use Rattle.registers.proofs.controller.FifoStatus.rx_fifo_count.Goals as goal

pub returns : goal.returns
returns c = shifted_out 0 8 _

pub overflow_cast-result : goal.overflow_cast-result
overflow_cast-result c = record { fits = shifted_out_fits 0 8 c.args.self.0 }
