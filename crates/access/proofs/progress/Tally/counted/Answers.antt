use native.Mathlib.Omega.{arith}
use Rattle.access.proofs.Count.{count_ready, count_unready}
use Rattle.access.proofs.progress.Tally.counted.Goals as goal

pub returns-then-ready : goal.returns-then-ready
returns-then-ready c = rw c.if-ready.true (count_ready _ _ _)

pub returns-then-longest-before : goal.returns-then-longest-before
returns-then-longest-before c = rw c.if-ready.false (count_unready _ _ _ (omega arith))

pub returns : goal.returns
returns c = rw c.if-ready.false (count_unready _ _ _ (omega arith))
