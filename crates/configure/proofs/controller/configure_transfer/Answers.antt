use Rattle.configure.specs.Steps.{transfer_config}
use Rattle.access.proofs.Makes.{then_makes}
use Rattle.access.proofs.Stopped.{stopped_makes}
use Rattle.configure.proofs.Configure.{formats}
use Rattle.configure.proofs.controller.configure_transfer.Goals as goal

pub returns-in_err-format : goal.returns-in_err-format
unfolding transfer_config
returns-in_err-format c =
    stopped_makes _ c.from_residual.ensures.1
    (rw (c.cs_ctrl_mode-cs_ctrl_mode.ensures, formats) at c.in_err-format.ensures)

pub returns-in_err-select_chip : goal.returns-in_err-select_chip
unfolding transfer_config
returns-in_err-select_chip c =
    then_makes (rw (c.cs_ctrl_mode-cs_ctrl_mode.ensures, formats) at c.in_ok-format.ensures)
    (stopped_makes _ c.from_residual-in_err-select_chip.ensures.1 c.in_err-select_chip.ensures)

pub returns : goal.returns
unfolding transfer_config
returns c =
    then_makes (rw (c.cs_ctrl_mode-cs_ctrl_mode.ensures, formats) at c.in_ok-format.ensures)
    (then_makes c.in_ok-select_chip.ensures c.sample.ensures)
