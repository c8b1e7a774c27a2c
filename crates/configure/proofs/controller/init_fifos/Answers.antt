use Rattle.configure.specs.Steps.{fifo_steps}
use Rattle.access.proofs.Makes.{then_makes}
use Rattle.access.proofs.Stopped.{stopped_makes}
use Rattle.configure.proofs.controller.init_fifos.Goals as goal

pub returns-in_err-reset_fifos : goal.returns-in_err-reset_fifos
unfolding fifo_steps
returns-in_err-reset_fifos c = stopped_makes _ c.from_residual.ensures.1 c.in_err-reset_fifos.ensures

pub returns-in_err-perform : goal.returns-in_err-perform
unfolding fifo_steps
returns-in_err-perform c =
    then_makes c.in_ok-reset_fifos.ensures
    (stopped_makes _ c.from_residual-in_err-perform.ensures.1 c.in_err-perform.ensures)

pub returns : goal.returns
unfolding fifo_steps
returns c = then_makes c.in_ok-reset_fifos.ensures (then_makes c.in_ok-perform.ensures c.clear_interrupts.ensures)
