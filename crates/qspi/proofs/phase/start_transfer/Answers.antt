use Rattle.std.proofs.lemmas.Result.{err_from_is_err_and}
use Rattle.access.proofs.Makes.{then_makes, stop_makes}
use Rattle.qspi.specs.Phases.{start_transfer}
use Rattle.qspi.proofs.phase.start_transfer.Goals as goal

pub returns-in_err-set_single_line : goal.returns-in_err-set_single_line
unfolding start_transfer
returns-in_err-set_single_line c =
    let p = err_from_is_err_and c.from_residual.result c.from_residual.ensures.1 in rw (p.1, p.2) (stop_makes _ c.in_err-set_single_line.ensures)

pub returns : goal.returns
unfolding start_transfer
returns c = then_makes c.in_ok-set_single_line.ensures c.set_start.ensures
