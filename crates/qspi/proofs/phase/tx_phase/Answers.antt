use native.Mathlib.Omega.{arith}
use Rattle.std.proofs.lemmas.Result.{err_from_is_err_and}
use Rattle.access.proofs.Goes.{makes_goes, then_goes, stop_goes}
use Rattle.qspi.proofs.Sequence.{tx_none, tx_some}
use Rattle.qspi.proofs.phase.tx_phase.Goals as goal

pub returns-then-is_empty : goal.returns-then-is_empty
returns-then-is_empty c = tx_none _ _ _ (grind (arith, c.if-is_empty.ensures))

pub returns-in_err-begin : goal.returns-in_err-begin
returns-in_err-begin c =
    let p = err_from_is_err_and c.from_residual.result c.from_residual.ensures.1 in
    rw (p.1, p.2) (tx_some _ _ (grind (arith, c.if-is_empty.ensures))
    (stop_goes _ (makes_goes (rw c.tx-counts.ensures at c.in_err-begin.ensures))))

pub returns-in_err-write_bytes : goal.returns-in_err-write_bytes
returns-in_err-write_bytes c =
    let p = err_from_is_err_and c.from_residual-in_err-write_bytes.result c.from_residual-in_err-write_bytes.ensures.1
    in
    rw (p.1, p.2) (tx_some _ _ (grind (arith, c.if-is_empty.ensures))
    (then_goes (makes_goes (rw c.tx-counts.ensures at c.in_ok-begin.ensures))
    (stop_goes _ c.in_err-write_bytes.ensures)))

pub returns-in_err-wait_tx_drained : goal.returns-in_err-wait_tx_drained
returns-in_err-wait_tx_drained c =
    let p = err_from_is_err_and c.from_residual-in_err-wait_tx_drained.result
    c.from_residual-in_err-wait_tx_drained.ensures.1 in
    rw (p.1, p.2) (tx_some _ _ (grind (arith, c.if-is_empty.ensures))
    (then_goes (makes_goes (rw c.tx-counts.ensures at c.in_ok-begin.ensures))
    (then_goes c.in_ok-write_bytes.ensures (stop_goes _ c.in_err-wait_tx_drained.ensures))))

pub returns : goal.returns
returns c = tx_some _ _ (grind (arith, c.if-is_empty.ensures))
    (then_goes (makes_goes (rw c.tx-counts.ensures at c.in_ok-begin.ensures))
    (then_goes c.in_ok-write_bytes.ensures (then_goes c.in_ok-wait_tx_drained.ensures c.wait_transfer_done.ensures)))
