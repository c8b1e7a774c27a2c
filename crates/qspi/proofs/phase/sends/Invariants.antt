use Rattle.qspi.proofs.Moving.{SendingIn}
use Rattle.qspi.proofs.phase.sends.Given as goal

abbrev pub invariant-loop-byte : goal.invariant-loop-byte
invariant-loop-byte l = SendingIn l.bytes l.initial.log l.initial.entries l.log l.entries l.byte-index
