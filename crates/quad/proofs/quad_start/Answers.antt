use Rattle.std.proofs.lemmas.Result.{err_from_is_err_and}
use Rattle.access.proofs.Goes.{then_goes, stop_goes}
use Rattle.quad.specs.Quad.{quad_start, quad_mode}
use Rattle.quad.proofs.quad_start.Goals as goal

pub returns-in_err-tx_phase : goal.returns-in_err-tx_phase
unfolding quad_start
returns-in_err-tx_phase c =
    let p = err_from_is_err_and c.from_residual.result c.from_residual.ensures.1 in
    rw (p.1, p.2) (stop_goes _ c.in_err-tx_phase.ensures)

pub returns : goal.returns
unfolding quad_start quad_mode
returns c = then_goes c.in_ok-tx_phase.ensures c.set_work_mode.ensures
