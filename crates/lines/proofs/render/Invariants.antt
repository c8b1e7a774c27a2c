use Prim.Native.Nat.{◌*◌}
use mathlib.Core.Path.{◌≡◌}
use lib.ListN.{take}
use Rattle.lines.specs.Text.{entry_lines}
use Rattle.lines.specs.Writer.{Puts}
use Rattle.lines.proofs.render.Given as goal

abbrev pub invariant-loop-head : goal.invariant-loop-head
invariant-loop-head l = record {
  len : l.lines.len ≡ 16 * l.head-index;
  put : Puts l.initial.lines l.lines (entry_lines (take (2 * l.head-index) l.log));
}
