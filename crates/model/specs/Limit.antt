-- Demand 3 for every tree of steps: the same steps under another limit, with more answers behind.
use Rattle.std.specs.Prelude.{◌≡◌, false, List, ◌++◌, ◌⊎◌, ◌↔◌, ℕ, ◌<◌}
use Rattle.model.specs.Tally.{longest_of}
use Rattle.model.specs.Steps.{Steps}
use Rattle.model.specs.Run.{Outcome, run}
use Rattle.model.specs.State.{State, begun, advance}

-- done or unsupported
abbrev pub Ended : ℕ → Type 0
Ended n = (n ≡ 0) ⊎ (n ≡ 2)

-- the outcome with more answers left
abbrev pub with_more : List ℕ → Outcome → Outcome
with_more more o = record { number = o.number; trace = o.trace; room = o.room; rest = o.rest ++ more; memory = o.memory }

-- The second run against the first: done or unsupported exactly when its limit is above the first's longest, and then alike.
pub record Again (limit : ℕ) (more : List ℕ) (first second : Outcome) : Type 0 where
  pub exactly : Ended second.number ↔ (longest_of first.trace < limit)
  pub alike : longest_of first.trace < limit → second ≡ with_more more first

abbrev pub AnotherLimit : Type 0
AnotherLimit =
    (s : Steps) (limit limit' room : ℕ) (answers more m : List ℕ) → 0 < limit' → Ended (run s limit false room answers m).number
    → Again limit' more (run s limit false room answers m) (run s limit' false room (answers ++ more) m)

-- a run that the law speaks of, with an unready poll in it
abbrev pub AnotherLimitMet : Type 0
AnotherLimitMet =
    (s : Steps) × (limit : ℕ) × (room : ℕ) × (answers : List ℕ) × (m : List ℕ)
    × Ended (run s limit false room answers m).number × (0 < longest_of (run s limit false room answers m).trace)

-- The same of a call as its caller sees it, from no entry and the first answer on.
pub record AgainCall (limit : ℕ) (first second : State) : Type 0 where
  pub exactly : Ended second.number ↔ (first.tally.longest < limit)
  pub alike : first.tally.longest < limit → second ≡ first

abbrev pub AnotherLimitCall : Type 0
AnotherLimitCall =
    (s : Steps) (limit limit' : ℕ) (answers more log m : List ℕ) → 0 < limit' → Ended (advance s limit answers (begun log m)).number
    → AgainCall limit' (advance s limit answers (begun log m)) (advance s limit' (answers ++ more) (begun log m))
