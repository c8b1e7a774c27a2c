use Rattle.std.proofs.Common.{◌-◌, ◌/◌, length}
use Rattle.chain.specs.Of.{request_of}
use Rattle.chain.proofs.Running.{RunningOn}
use Rattle.chain.proofs.run_chain.Given as goal

abbrev pub invariant-loop-next : goal.invariant-loop-next
invariant-loop-next l =
    RunningOn (request_of l.request) l.initial.block l.initial.memory l.block l.memory l.own

abbrev pub decreases-loop-next : goal.decreases-loop-next
decreases-loop-next l = length l.words / 8 - l.own
