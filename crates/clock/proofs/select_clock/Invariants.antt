-- `clock::select_clock` meets its contract. Both loops keep in `best` the lowest rank of the candidates passed. Assumes
-- nothing.
use mathlib.Core.Path.{◌≡◌}
use Prim.Native.Nat.{◌+◌, ◌-◌, ◌*◌, ◌≤◌}
use Rattle.clock.specs.Rank.{lowest}
use Rattle.clock.proofs.select_clock.Given as goal

abbrev pub invariant-places : goal.invariant-places
invariant-places l = (l.place ≤ 272) × (l.best ≡ lowest l.pll l.target (l.m * 272 + l.place))

abbrev pub decreases-places : goal.decreases-places
decreases-places l = 272 - l.place

abbrev pub invariant-modules : goal.invariant-modules
invariant-modules l = (l.m ≤ 32) × (l.best ≡ lowest l.pll l.target (l.m * 272))

abbrev pub decreases-modules : goal.decreases-modules
decreases-modules l = 32 - l.m
