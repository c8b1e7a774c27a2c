use Rattle.configure.specs.Steps.{chip_select}
use Rattle.access.proofs.Stopped.{nothing_makes}
use Rattle.configure.proofs.controller.select_chip.Goals as goal

pub returns-in-None : goal.returns-in-None
unfolding chip_select
returns-in-None c = rw c.in-None.is nothing_makes
