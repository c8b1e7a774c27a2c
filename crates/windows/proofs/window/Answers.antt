use mathlib.Core.Path.{refl}
use native.Mathlib.Nat.{add-sub_cancel_left}
use Rattle.windows.specs.Windows.{window}
use Rattle.windows.proofs.window.Goals as goal

pub returns : goal.returns
unfolding window
returns c = rw add-sub_cancel_left refl
