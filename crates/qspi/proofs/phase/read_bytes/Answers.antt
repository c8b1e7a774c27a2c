use native.Mathlib.Omega.{arith}
use native.Mathlib.Nat.{add-sub_cancel_left}
use Rattle.std.proofs.lemmas.Result.{err_from_is_err_and}
use Rattle.qspi.proofs.Pacing.{unreceived, ungot, reading_on, all_read}
use Rattle.qspi.proofs.phase.read_bytes.Goals as goal

pub returns-in_err-count : goal.returns-in_err-count
returns-in_err-count c =
    let p = err_from_is_err_and c.from_residual.result c.from_residual.ensures.1 in
    rw (p.1, p.2) (unreceived c.loop-idx.invariant (omega (arith, c.loop-idx-test.true, c.loop-idx.auto.bytes))
    c.in_err-count.ensures)

pub returns-in_err-get_all : goal.returns-in_err-get_all
returns-in_err-get_all c =
    let p = err_from_is_err_and c.from_residual-in_err-get_all.result c.from_residual-in_err-get_all.ensures.1 in
    rw (p.1, p.2, add-sub_cancel_left)
    (ungot c.loop-idx.invariant (omega (arith, c.loop-idx-test.true, c.loop-idx.auto.bytes)) c.in_ok-count.ensures
    (omega (arith, c.min-len.ensures, c.loop-idx.auto.bytes)) (rw add-sub_cancel_left at c.get_all.auto.bytes)
    (rw add-sub_cancel_left at c.in_err-get_all.ensures))

pub loop-idx-preserved : goal.loop-idx-preserved
loop-idx-preserved c =
    rw add-sub_cancel_left
    (reading_on c.loop-idx.invariant (omega (arith, c.loop-idx-test.true, c.loop-idx.auto.bytes)) c.in_ok-count.ensures
    (omega (arith, c.min-len.ensures, c.loop-idx.auto.bytes)) (rw add-sub_cancel_left at c.get_all.auto.bytes)
    (rw add-sub_cancel_left at c.in_ok-get_all.ensures))

pub returns : goal.returns
returns c = all_read c.loop-idx.invariant (omega (arith, c.loop-idx-test.false, c.loop-idx.auto.bytes))
