use Rattle.std.proofs.Common.{◌-◌, length}
use Rattle.qspi.proofs.Pacing.{ReadingOn}
use Rattle.qspi.proofs.phase.read_bytes.Given as goal

abbrev pub invariant-loop-idx : goal.invariant-loop-idx
invariant-loop-idx l = ReadingOn l.initial.bytes l.initial.block l.block l.bytes l.idx

abbrev pub decreases-loop-idx : goal.decreases-loop-idx
decreases-loop-idx l = length l.initial.bytes - l.idx
