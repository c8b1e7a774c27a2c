use Rattle.quad.proofs.Framed.{frame_sent}
use Rattle.quad.proofs.read_quad.Goals as goal

pub returns : goal.returns
returns c = rw (← c.dummy_bytes_for-dummies.ensures, ← frame_sent c.new.ensures) c.read_framed.ensures
