use mathlib.Core.Path.{◌≡◌}
use mathlib.Core.List.{◌++◌}
use lib.ListN.{length, drop}
use Rattle.io.specs.Digits.{last_digits}
use Rattle.lines.proofs.hex_digits.Given as goal

abbrev pub invariant-loop-i : goal.invariant-loop-i
invariant-loop-i l = record {
  long : length l.text ≡ length l.initial.text;
  digits : last_digits 16 l.i l.rest ++ drop l.i l.text ≡ last_digits 16 (length l.initial.text) l.n;
}
