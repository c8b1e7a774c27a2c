use Rattle.std.proofs.lemmas.Result.{err_from_is_err_and}
use Rattle.access.proofs.Makes.{then_makes, stop_makes}
use Rattle.qspi.specs.Phases.{begin_transfer}
use Rattle.qspi.proofs.phase.begin.Goals as goal

pub returns-in_err-reset_fifos : goal.returns-in_err-reset_fifos
returns-in_err-reset_fifos c =
    let p = err_from_is_err_and c.from_residual.result c.from_residual.ensures.1 in
    rw (p.1, p.2) (stop_makes _ c.in_err-reset_fifos.ensures)

pub returns-in_err-program_transfer : goal.returns-in_err-program_transfer
unfolding begin_transfer
returns-in_err-program_transfer c =
    let p = err_from_is_err_and c.from_residual-in_err-program_transfer.result
    c.from_residual-in_err-program_transfer.ensures.1 in
    rw (p.1, p.2) (then_makes c.in_ok-reset_fifos.ensures (stop_makes _ c.in_err-program_transfer.ensures))

pub returns : goal.returns
unfolding begin_transfer
returns c = then_makes c.in_ok-reset_fifos.ensures
    (then_makes c.in_ok-program_transfer.ensures c.start_transfer.ensures)
