-- What it is to write text behind what is written of a lent buffer.
use Rattle.std.specs.Prelude.{List, ◌≡◌, ℕ}
use Rattle.lines.specs.declared.Writer.{Writer}
use Rattle.lines.specs.Text.{Wrote}

-- the writer w becomes w', on the same buffer, by writing x
pub record Puts (w w' : Writer) (x : List ℕ) : Type 0 where
  pub same : w'.buffer.ghost_name ≡ w.buffer.ghost_name
  pub wrote : Wrote w.buffer.now w.len w'.buffer.now w'.len x
