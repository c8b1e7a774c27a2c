use Rattle.std.proofs.Common.{◌-◌, length}
use Rattle.qspi.proofs.Pacing.{WritingOn}
use Rattle.qspi.proofs.phase.write_bytes.Given as goal

abbrev pub invariant-loop-idx : goal.invariant-loop-idx
invariant-loop-idx l = WritingOn l.bytes l.initial.block l.block l.idx

abbrev pub decreases-loop-idx : goal.decreases-loop-idx
decreases-loop-idx l = length l.bytes - l.idx
