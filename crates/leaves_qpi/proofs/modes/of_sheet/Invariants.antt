use Rattle.std.proofs.Common.{◌≡◌, ◌+◌, ◌-◌, ◌/◌, ◌++◌, length}
use Rattle.leaves_qpi.specs.Modes.{sheet_modes, modes_along}
use Rattle.leaves_qpi.proofs.modes.of_sheet.Given as goal

abbrev pub invariant-loop-before : goal.invariant-loop-before
invariant-loop-before l =
    l.modes.items ++ modes_along l.numbers l.on l.before (length l.numbers / 32 + 1 - l.before) ≡ sheet_modes l.numbers
