use Rattle.std.proofs.lemmas.Result.{err_from_is_err_and}
use Rattle.waits.proofs.Sequence.{waited_goes}
use Rattle.waits.proofs.wait_tx_drained.Goals as goal

pub returns-in_err-wait : goal.returns-in_err-wait
returns-in_err-wait c = let p = err_from_is_err_and c.from_residual.result c.from_residual.ensures.1 in rw (p.1, p.2) (waited_goes c.in_err-wait.ensures)

pub returns : goal.returns
returns c = waited_goes c.in_ok-wait.ensures
