use native.Mathlib.Nat.{add-sub_cancel_left}
use Rattle.windows.proofs.Parts.{rx_goes}
use Rattle.windows.proofs.read.Goals as goal

pub returns : goal.returns
returns c = rw add-sub_cancel_left (rx_goes _ _ c.requires.0 (rw add-sub_cancel_left at c.rx_phase.ensures))
