use Rattle.configure.specs.Steps.{controller_clock}
use Rattle.access.proofs.Makes.{then_makes}
use Rattle.access.proofs.Stopped.{stopped_makes}
use Rattle.configure.proofs.controller.configure_clock.Goals as goal

pub returns-in_err-reset : goal.returns-in_err-reset
unfolding controller_clock
returns-in_err-reset c = stopped_makes _ c.from_residual.ensures.1 c.in_err-reset.ensures

pub returns-in_err-perform : goal.returns-in_err-perform
unfolding controller_clock
returns-in_err-perform c =
    then_makes c.in_ok-reset.ensures
    (stopped_makes _ c.from_residual-in_err-perform.ensures.1 c.in_err-perform.ensures)

pub returns-in_err-set_divider : goal.returns-in_err-set_divider
unfolding controller_clock
returns-in_err-set_divider c =
    then_makes c.in_ok-reset.ensures
    (then_makes c.in_ok-perform.ensures
    (stopped_makes _ c.from_residual-in_err-set_divider.ensures.1 c.in_err-set_divider.ensures))

pub returns : goal.returns
unfolding controller_clock
returns c =
    then_makes c.in_ok-reset.ensures
    (then_makes c.in_ok-perform.ensures (then_makes c.in_ok-set_divider.ensures c.perform-2.ensures))
