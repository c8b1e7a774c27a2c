use Rattle.std.proofs.Common.{rules}
use Rattle.configure.specs.Steps.{enable_module_clock}
use Rattle.access.proofs.Makes.{then_makes}
use Rattle.access.proofs.Stopped.{stopped_makes}
use Rattle.configure.proofs.Configure.{own_place}
use Rattle.configure.proofs.module_clock.enable_module_clock.Goals as goal

pub returns-in_err-enable : goal.returns-in_err-enable
unfolding enable_module_clock
returns-in_err-enable c = rw (own_place c.clock_place-place.ensures (search rules))
    (stopped_makes _ c.from_residual.ensures.1 c.in_err-enable.ensures)

pub returns-in_err-assert_reset : goal.returns-in_err-assert_reset
unfolding enable_module_clock
returns-in_err-assert_reset c = rw (own_place c.clock_place-place.ensures (search rules))
    (then_makes c.in_ok-enable.ensures
    (stopped_makes _ c.from_residual-in_err-assert_reset.ensures.1 c.in_err-assert_reset.ensures))

pub returns-in_err-perform : goal.returns-in_err-perform
unfolding enable_module_clock
returns-in_err-perform c = rw (own_place c.clock_place-place.ensures (search rules))
    (then_makes c.in_ok-enable.ensures
    (then_makes c.in_ok-assert_reset.ensures
    (stopped_makes _ c.from_residual-in_err-perform.ensures.1 c.in_err-perform.ensures)))

pub returns : goal.returns
unfolding enable_module_clock
returns c = rw (own_place c.clock_place-place.ensures (search rules))
    (then_makes c.in_ok-enable.ensures
    (then_makes c.in_ok-assert_reset.ensures (then_makes c.in_ok-perform.ensures c.release_reset.ensures)))
