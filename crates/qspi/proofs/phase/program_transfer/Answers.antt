use Rattle.std.proofs.lemmas.Result.{err_from_is_err_and}
use Rattle.access.proofs.Makes.{then_makes, stop_makes}
use Rattle.qspi.specs.Phases.{program_transfer}
use Rattle.qspi.proofs.phase.program_transfer.Goals as goal

pub returns-in_err-set_total_bytes : goal.returns-in_err-set_total_bytes
unfolding program_transfer
returns-in_err-set_total_bytes c =
    let p = err_from_is_err_and c.from_residual.result c.from_residual.ensures.1 in rw (p.1, p.2) (stop_makes _ c.in_err-set_total_bytes.ensures)

pub returns : goal.returns
unfolding program_transfer
returns c = then_makes c.in_ok-set_total_bytes.ensures c.set_tx_cnt.ensures
