use Rattle.opening.specs.Steps.{opening_steps}
use Rattle.access.proofs.Makes.{then_makes}
use Rattle.access.proofs.Stopped.{stopped_makes}
use Rattle.opening.proofs.new.Goals as goal

pub returns-in_err-enable_module_clock : goal.returns-in_err-enable_module_clock
unfolding opening_steps
returns-in_err-enable_module_clock c = stopped_makes _ c.from_residual.ensures.1 c.in_err-enable_module_clock.ensures

pub returns-in_err-configure_registers : goal.returns-in_err-configure_registers
unfolding opening_steps
returns-in_err-configure_registers c =
    then_makes c.in_ok-enable_module_clock.ensures
    (stopped_makes _ c.from_residual-in_err-configure_registers.ensures.1 c.in_err-configure_registers.ensures)

pub returns : goal.returns
unfolding opening_steps
returns c =
    then_makes c.in_ok-enable_module_clock.ensures
    (then_makes c.in_ok-configure_registers.ensures c.init_fifos.ensures)
