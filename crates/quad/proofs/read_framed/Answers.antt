use Rattle.std.proofs.lemmas.Result.{err_from_is_err_and}
use Rattle.access.proofs.Goes.{goes_on}
use Rattle.quad.proofs.Quad.{quad_fails, quad_goes_on}
use Rattle.quad.proofs.read_framed.Goals as goal

pub returns-in_err-quad_start : goal.returns-in_err-quad_start
returns-in_err-quad_start c =
    let p = err_from_is_err_and c.from_residual.result c.from_residual.ensures.1 in
    rw (p.1, p.2) (goes_on (quad_fails _ _ c.in_err-quad_start.ensures) _)

pub returns : goal.returns
returns c = quad_goes_on _ _ c.in_ok-quad_start.ensures c.rx_phase-ended.ensures c.quad_end.ensures
