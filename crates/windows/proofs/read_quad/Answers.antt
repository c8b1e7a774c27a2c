use native.Mathlib.Nat.{add-sub_cancel_left}
use Rattle.quad.proofs.Framed.{frame_sent}
use Rattle.windows.specs.Windows.{read_quad_windows}
use Rattle.windows.proofs.Parts.{looks_goes, quad_goes}
use Rattle.windows.proofs.read_quad.Goals as goal

pub returns : goal.returns
unfolding read_quad_windows
returns c =
    rw add-sub_cancel_left
    (looks_goes _
    (quad_goes _ _ c.requires.to_in_bounds.0 _
    (rw (
      frame_sent c.new-frame.ensures,
      c.window.ensures,
      c.dummy_bytes_for-dummies.ensures,
      add-sub_cancel_left,
    ) at c.read_framed.ensures)))
