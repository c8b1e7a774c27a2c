use native.Mathlib.Nat.{add-sub_cancel_left}
use Rattle.std.proofs.lemmas.Result.{err_from_is_err_and}
use Rattle.qspi.proofs.Pacing.{unpaced, unwritten, writing_on, all_written}
use Rattle.qspi.proofs.phase.write_bytes.Goals as goal

pub returns-in_err-count : goal.returns-in_err-count
returns-in_err-count c =
    let p = err_from_is_err_and c.from_residual.result c.from_residual.ensures.1 in
    rw (p.1, p.2) (unpaced c.loop-idx.invariant c.loop-idx-test.true c.in_err-count.ensures)

pub returns-in_err-send_all : goal.returns-in_err-send_all
returns-in_err-send_all c =
    let p = err_from_is_err_and c.from_residual-in_err-send_all.result c.from_residual-in_err-send_all.ensures.1 in
    rw (p.1, p.2)
    (unwritten c.loop-idx.invariant c.loop-idx-test.true c.in_ok-count.ensures c.min-len.ensures (rw add-sub_cancel_left at c.in_err-send_all.ensures))

pub loop-idx-preserved : goal.loop-idx-preserved
loop-idx-preserved c =
    writing_on c.loop-idx.invariant c.loop-idx-test.true c.in_ok-count.ensures c.min-len.ensures (rw add-sub_cancel_left at c.in_ok-send_all.ensures)

pub returns : goal.returns
returns c = all_written c.loop-idx.invariant c.loop-idx-test.false
