use Rattle.std.proofs.Common.{length, ◌-◌, ◌/◌}
use Rattle.core_delays.proofs.Along.{Counted}
use Rattle.core_delays.proofs.delays.along.Given as goal

abbrev pub invariant-loop-cycles : goal.invariant-loop-cycles
invariant-loop-cycles l = Counted l.rules l.memory l.words l.own l.cycles.items

abbrev pub decreases-loop-cycles : goal.decreases-loop-cycles
decreases-loop-cycles l = length l.words / 8 - l.own
