use Rattle.bus.proofs.Entry.{called_on_begun}
use Rattle.bus.proofs.quad_spi_bus.read_quad.Goals as goal

pub returns : goal.returns
returns c = called_on_begun c.new.ensures c.read_quad_on.ensures
