use Rattle.configure.specs.Steps.{controller_on}
use Rattle.access.proofs.Makes.{then_makes}
use Rattle.access.proofs.Stopped.{stopped_makes}
use Rattle.configure.proofs.controller.enable_controller.Goals as goal

pub returns-in_err-enable : goal.returns-in_err-enable
unfolding controller_on
returns-in_err-enable c = stopped_makes _ c.from_residual.ensures.1 c.in_err-enable.ensures

pub returns : goal.returns
unfolding controller_on
returns c = then_makes c.in_ok-enable.ensures c.disable_interrupts.ensures
