use Rattle.access.proofs.Makes.{ends_unsupported}
use Rattle.mode.specs.Mode.{qpi_mode}
use Rattle.mode.proofs.set_qpi_mode.Goals as goal

pub returns-then-qpi : goal.returns-then-qpi
unfolding qpi_mode
returns-then-qpi c = rw c.if-qpi.true c.set_lines.ensures

pub returns-else-qpi : goal.returns-else-qpi
unfolding qpi_mode
returns-else-qpi c = rw c.if-qpi.false (ends_unsupported _)
