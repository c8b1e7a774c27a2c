-- Each turn of the loop is one more poll of the wait.
use Rattle.std.proofs.Common.{◌-◌}
use Rattle.access.specs.Of.{cause_of}
use Rattle.waits.proofs.Polling.{Polling}
use Rattle.waits.proofs.wait_tallied.Given as goal

abbrev pub invariant-loop-word : goal.invariant-loop-word
invariant-loop-word l = Polling (cause_of l.cause) l.initial.tally l.initial.block l.tally l.block l.unready

abbrev pub decreases-loop-word : goal.decreases-loop-word
decreases-loop-word l = l.limit - l.unready
