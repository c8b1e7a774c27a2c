use Rattle.configure.specs.Steps.{register_steps}
use Rattle.access.proofs.Makes.{then_makes}
use Rattle.access.proofs.Stopped.{stopped_makes}
use Rattle.configure.proofs.controller.configure_registers.Goals as goal

pub returns-in_err-configure_clock : goal.returns-in_err-configure_clock
unfolding register_steps
returns-in_err-configure_clock c = stopped_makes _ c.from_residual.ensures.1 c.in_err-configure_clock.ensures

pub returns-in_err-enable_controller : goal.returns-in_err-enable_controller
unfolding register_steps
returns-in_err-enable_controller c =
    then_makes c.in_ok-configure_clock.ensures
    (stopped_makes _ c.from_residual-in_err-enable_controller.ensures.1 c.in_err-enable_controller.ensures)

pub returns-in_err-configure_transfer : goal.returns-in_err-configure_transfer
unfolding register_steps
returns-in_err-configure_transfer c =
    then_makes c.in_ok-configure_clock.ensures
    (then_makes c.in_ok-enable_controller.ensures
    (stopped_makes _ c.from_residual-in_err-configure_transfer.ensures.1 c.in_err-configure_transfer.ensures))

pub returns : goal.returns
unfolding register_steps
returns c =
    then_makes c.in_ok-configure_clock.ensures
    (then_makes c.in_ok-enable_controller.ensures
    (then_makes c.in_ok-configure_transfer.ensures c.configure_work_mode.ensures))
