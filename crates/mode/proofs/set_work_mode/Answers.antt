use Rattle.std.proofs.lemmas.Result.{err_from_is_err_and}
use Rattle.access.proofs.Goes.{makes_goes, then_goes, stop_goes}
use Rattle.mode.specs.Mode.{work_mode_steps}
use Rattle.mode.proofs.set_work_mode.Goals as goal

pub returns-in_err-wait_transfer_done : goal.returns-in_err-wait_transfer_done
unfolding work_mode_steps
returns-in_err-wait_transfer_done c =
    let p = err_from_is_err_and c.from_residual.result c.from_residual.ensures.1 in
    rw (p.1, p.2) (stop_goes _ c.in_err-wait_transfer_done.ensures)

pub returns : goal.returns
unfolding work_mode_steps
returns c = then_goes c.in_ok-wait_transfer_done.ensures (makes_goes c.change_mode.ensures)
