use mathlib.Core.Path.{refl}
use Rattle.std.proofs.lemmas.Result.{err_from_is_err_and}
use Rattle.access.proofs.Goes.{goes_on, then_goes_on, stop_goes_on}
use Rattle.transfer.specs.Transfer.{transfer_steps}
use Rattle.transfer.proofs.Exchanging.{part_goes}
use Rattle.transfer.proofs.transfer_part.Goals as goal

pub returns-in_err-tx_phase : goal.returns-in_err-tx_phase
unfolding transfer_steps
returns-in_err-tx_phase c =
    let p = err_from_is_err_and c.from_residual.result c.from_residual.ensures.1 in
    part_goes refl (rw (p.1, p.2) (stop_goes_on _ (goes_on c.in_err-tx_phase.ensures _)))

pub returns : goal.returns
unfolding transfer_steps
returns c = part_goes refl (then_goes_on (goes_on c.in_ok-tx_phase.ensures _) c.rx_phase.ensures)
