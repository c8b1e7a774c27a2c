use Rattle.std.proofs.lemmas.Result.{err_from_is_err_and}
use Rattle.access.proofs.Goes.{then_goes_on, stop_goes_on}
use Rattle.transfer.specs.Transfer.{transfer_steps}
use Rattle.windows.specs.Windows.{write_window, transfer_windows}
use Rattle.windows.proofs.Parts.{looks_goes, goes_looked}
use Rattle.windows.proofs.transfer.Goals as goal

pub returns-in_err-write : goal.returns-in_err-write
unfolding write_window transfer_windows transfer_steps
returns-in_err-write c =
    let p = err_from_is_err_and c.from_residual.result c.from_residual.ensures.1 in
    rw (p.1, p.2) (looks_goes _ (stop_goes_on _ (goes_looked _ c.in_err-write.ensures)))

pub returns : goal.returns
unfolding write_window transfer_windows transfer_steps
returns c = looks_goes _ (then_goes_on (goes_looked _ c.in_ok-write.ensures) c.read.ensures)
