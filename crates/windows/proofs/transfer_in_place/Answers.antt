use native.Mathlib.Nat.{add-sub_cancel_left}
use Rattle.windows.proofs.Parts.{in_place_goes}
use Rattle.windows.proofs.transfer_in_place.Goals as goal

pub returns : goal.returns
returns c = rw add-sub_cancel_left (in_place_goes _ _ c.requires
    (rw add-sub_cancel_left at c.transfer_in_place.ensures))
