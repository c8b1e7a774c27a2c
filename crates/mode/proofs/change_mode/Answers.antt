use Rattle.std.proofs.lemmas.Result.{err_from_is_err_and}
use Rattle.access.proofs.Makes.{then_makes, stop_makes}
use Rattle.mode.proofs.Mode.{is_qpi_lem, is_not}
use Rattle.mode.proofs.change_mode.Goals as goal

pub returns-then-is_qpi : goal.returns-then-is_qpi
returns-then-is_qpi c = rw (is_qpi_lem _ _ c.is_qpi.ensures c.if-is_qpi.true) c.set_qpi_mode.ensures

pub returns-in_err-set_lines : goal.returns-in_err-set_lines
returns-in_err-set_lines c =
    let p = err_from_is_err_and c.from_residual.result c.from_residual.ensures.1 in
    rw (is_not _ _ c.is_qpi.ensures c.if-is_qpi.false, p.1, p.2)
    (stop_makes _ (rw c.data_lines.ensures at c.in_err-set_lines.ensures))

pub returns : goal.returns
returns c =
    rw (is_not _ _ c.is_qpi.ensures c.if-is_qpi.false)
    (then_makes (rw c.data_lines.ensures at c.in_ok-set_lines.ensures)
    (rw c.three_wire.ensures at c.set_three_wire.ensures))
