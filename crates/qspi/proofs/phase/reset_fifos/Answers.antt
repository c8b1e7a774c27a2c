use Rattle.std.proofs.lemmas.Result.{err_from_is_err_and}
use Rattle.access.proofs.Makes.{then_makes, stop_makes}
use Rattle.qspi.specs.Phases.{reset_fifos}
use Rattle.qspi.proofs.phase.reset_fifos.Goals as goal

pub returns-in_err-reset_both_fifos : goal.returns-in_err-reset_both_fifos
unfolding reset_fifos
returns-in_err-reset_both_fifos c =
    let p = err_from_is_err_and c.from_residual.result c.from_residual.ensures.1 in rw (p.1, p.2) (stop_makes _ c.in_err-reset_both_fifos.ensures)

pub returns : goal.returns
unfolding reset_fifos
returns c = then_makes c.in_ok-reset_both_fifos.ensures c.perform.ensures
