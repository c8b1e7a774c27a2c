use mathlib.Core.Path.{◌≡◌}
use Rattle.qspi.proofs.Moving.{GettingIn}
use Rattle.qspi.proofs.phase.gets.Given as goal

-- the answers are the ones that were given
abbrev pub invariant-loop-byte : goal.invariant-loop-byte
invariant-loop-byte l =
    (l.answers.words ≡ l.initial.answers.words)
    × GettingIn l.initial.bytes l.initial.answers.words.now l.initial.log l.initial.entries l.initial.answers.at l.log
    l.entries l.answers.at l.bytes l.byte-index
