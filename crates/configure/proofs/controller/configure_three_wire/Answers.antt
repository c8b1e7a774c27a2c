use Rattle.configure.specs.Steps.{configure_work_mode, bus_mode}
use Rattle.access.proofs.Makes.{then_makes}
use Rattle.access.proofs.Stopped.{stopped_makes}
use Rattle.configure.proofs.controller.configure_three_wire.Goals as goal

pub returns-in_err-set_bus_mode : goal.returns-in_err-set_bus_mode
unfolding configure_work_mode bus_mode
returns-in_err-set_bus_mode c = rw c.if-bit_mode_en.false
    (stopped_makes _ c.from_residual.ensures.1 c.in_err-set_bus_mode.ensures)

pub returns : goal.returns
unfolding configure_work_mode bus_mode
returns c = rw c.if-bit_mode_en.false (then_makes c.in_ok-set_bus_mode.ensures c.set_three_wire.ensures)
