use Rattle.bus.proofs.Entry.{called_on_begun}
use Rattle.bus.proofs.spi_bus.read.Goals as goal

pub returns : goal.returns
returns c = called_on_begun c.new.ensures c.read_on.ensures
