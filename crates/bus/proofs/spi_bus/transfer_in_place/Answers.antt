use Rattle.bus.proofs.Entry.{called_on_begun}
use Rattle.bus.proofs.spi_bus.transfer_in_place.Goals as goal

pub returns : goal.returns
returns c = called_on_begun c.new.ensures c.transfer_in_place_on.ensures
