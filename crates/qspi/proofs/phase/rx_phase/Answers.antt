use native.Mathlib.Omega.{arith}
use Rattle.std.proofs.lemmas.Result.{err_from_is_err_and}
use Rattle.access.proofs.Goes.{makes_goes, goes_on, then_goes_on, stop_goes_on}
use Rattle.qspi.proofs.Sequence.{rx_none, rx_some}
use Rattle.qspi.proofs.phase.rx_phase.Goals as goal

pub returns-then-is_empty : goal.returns-then-is_empty
returns-then-is_empty c = rx_none _ _ (grind (arith, c.if-is_empty.ensures))

pub returns-in_err-begin : goal.returns-in_err-begin
returns-in_err-begin c =
    let p = err_from_is_err_and c.from_residual.result c.from_residual.ensures.1 in
    rw (p.1, p.2) (rx_some _ (grind (arith, c.if-is_empty.ensures))
    (stop_goes_on _ (goes_on (makes_goes (rw c.rx-counts.ensures at c.in_err-begin.ensures)) _)))

pub returns-in_err-read_bytes : goal.returns-in_err-read_bytes
returns-in_err-read_bytes c =
    let p = err_from_is_err_and c.from_residual-in_err-read_bytes.result c.from_residual-in_err-read_bytes.ensures.1 in
    rw (p.1, p.2) (rx_some _ (grind (arith, c.if-is_empty.ensures))
    (then_goes_on (goes_on (makes_goes (rw c.rx-counts.ensures at c.in_ok-begin.ensures)) _)
    (stop_goes_on _ c.in_err-read_bytes.ensures)))

pub returns : goal.returns
returns c = rx_some _ (grind (arith, c.if-is_empty.ensures))
    (then_goes_on (goes_on (makes_goes (rw c.rx-counts.ensures at c.in_ok-begin.ensures)) _)
    (then_goes_on c.in_ok-read_bytes.ensures (goes_on c.wait_transfer_done.ensures _)))
