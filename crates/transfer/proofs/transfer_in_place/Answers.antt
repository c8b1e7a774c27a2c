use native.Mathlib.Omega.{arith}
use native.Mathlib.Nat.{add-sub_cancel_left}
use Rattle.std.proofs.lemmas.Result.{err_from_is_err_and}
use Rattle.transfer.proofs.Exchanging.{exchanging_on, exchanging_ends, all_exchanged}
use Rattle.transfer.proofs.transfer_in_place.Goals as goal

pub returns-in_err-transfer_part : goal.returns-in_err-transfer_part
returns-in_err-transfer_part c =
    let p = err_from_is_err_and c.from_residual.result c.from_residual.ensures.1 in
    rw (p.1, p.2, add-sub_cancel_left)
    (exchanging_ends c.loop-idx.invariant (omega (arith, c.loop-idx-test.true, c.loop-idx.auto.words))
    (omega (arith, c.min-len.ensures, c.loop-idx.auto.words))
    (rw add-sub_cancel_left at c.transfer_part.auto.chunk) (rw add-sub_cancel_left at c.in_err-transfer_part.ensures))

pub loop-idx-preserved : goal.loop-idx-preserved
loop-idx-preserved c =
    rw add-sub_cancel_left
    (exchanging_on c.loop-idx.invariant (omega (arith, c.loop-idx-test.true, c.loop-idx.auto.words))
    (omega (arith, c.min-len.ensures, c.loop-idx.auto.words))
    (rw add-sub_cancel_left at c.transfer_part.auto.chunk) (rw add-sub_cancel_left at c.in_ok-transfer_part.ensures))

pub returns : goal.returns
returns c = all_exchanged c.loop-idx.invariant (omega (arith, c.loop-idx-test.false, c.loop-idx.auto.words))
