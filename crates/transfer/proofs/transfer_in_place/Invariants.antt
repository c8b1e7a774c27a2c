use Rattle.std.proofs.Common.{◌-◌, length}
use Rattle.transfer.proofs.Exchanging.{Exchanging}
use Rattle.transfer.proofs.transfer_in_place.Given as goal

abbrev pub invariant-loop-idx : goal.invariant-loop-idx
invariant-loop-idx l = Exchanging l.initial.words l.initial.block l.block l.words l.idx

abbrev pub decreases-loop-idx : goal.decreases-loop-idx
decreases-loop-idx l = length l.initial.words - l.idx
