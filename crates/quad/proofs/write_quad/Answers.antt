use Rattle.std.proofs.lemmas.Result.{err_from_is_err_and}
use Rattle.quad.proofs.Quad.{quad_fails, quad_goes}
use Rattle.quad.proofs.write_quad.Goals as goal

pub returns-in_err-quad_start : goal.returns-in_err-quad_start
returns-in_err-quad_start c =
    let p = err_from_is_err_and c.from_residual.result c.from_residual.ensures.1 in
    rw (p.1, p.2) (quad_fails _ _ c.in_err-quad_start.ensures)

pub returns : goal.returns
returns c = quad_goes _ _ c.in_ok-quad_start.ensures c.tx_phase-ended.ensures c.quad_end.ensures
