use Rattle.std.proofs.Common.{◌≡◌, ◌-◌, ◌/◌, ◌≤◌, length}
use Rattle.records.specs.Check.{checked, verdict}
use Rattle.records.proofs.WalkLaws.{from}
use Rattle.records.proofs.check.Given as goal

abbrev pub invariant-loop-next : goal.invariant-loop-next
invariant-loop-next l =
    record {
      one : 1 ≤ l.own;
      most : l.own ≤ length l.words / 8;
      rest : verdict (from l.rules l.memory l.words l.own) ≡ verdict (checked l.rules l.memory l.words);
    }

abbrev pub decreases-loop-next : goal.decreases-loop-next
decreases-loop-next l = length l.words / 8 - l.own
