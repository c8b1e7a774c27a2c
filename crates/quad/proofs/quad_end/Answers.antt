use Rattle.std.proofs.lemmas.Result.{err_from_is_err_and}
use Rattle.quad.specs.Quad.{standard_mode}
use Rattle.quad.proofs.Quad.{closes_done, closes_failed}
use Rattle.quad.proofs.quad_end.Goals as goal

pub returns-in_err-set_work_mode : goal.returns-in_err-set_work_mode
unfolding standard_mode
returns-in_err-set_work_mode c =
    let p = err_from_is_err_and c.from_residual.result c.from_residual.ensures.1 in
    rw (p.1, p.2) (closes_failed _ c.in_err-set_work_mode.ensures)

pub returns : goal.returns
unfolding standard_mode
returns c = closes_done _ c.in_ok-set_work_mode.ensures
