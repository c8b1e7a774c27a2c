use mathlib.Core.Path.{refl}
use Rattle.quad.proofs.Framed.{frames_copied}
use Rattle.quad.proofs.frame.QuadFrame.new.Goals as goal

pub returns : goal.returns
returns c = frames_copied _ _ c.min-dummy.ensures c.min-command_len.ensures (rw c.copy_from_slice.ensures.after refl)
