-- More room in the log, and more answers behind those that there are: a run that ends in 10 or 11 is the beginning of
-- the same run with more.
use Rattle.std.specs.Prelude.{◌≡◌, Bool, List, [], ◌++◌, ℕ, ◌+◌, ◌*◌, ◌≤◌, take}
use Rattle.model.specs.Event.{Event}
use Rattle.model.specs.Steps.{Steps}
use Rattle.model.specs.Run.{Outcome, run}
use Rattle.model.specs.State.{State, advance, called}

-- the outcome with k more entries of room left, and more answers
abbrev pub wider : ℕ → List ℕ → Outcome → Outcome
wider k more o =
    record { number = o.number; trace = o.trace; room = k + o.room; rest = o.rest ++ more; memory = o.memory }

-- The run with more against the run without: its entries begin with those of the first, and it is that run unless it
-- had more room after 10, or more answers after 11.
pub record BeginningOf (k : ℕ) (more : List ℕ) (first second : Outcome) : Type 0 where
  pub onward : (t : List Event) × (second.trace ≡ first.trace ++ t)
  pub same : (first.number ≡ 10 → k ≡ 0) → (first.number ≡ 11 → more ≡ []) → second ≡ wider k more first

abbrev pub RunIsBeginning : Type 0
RunIsBeginning =
    (s : Steps) (limit : ℕ) (late : Bool) (room k : ℕ) (answers more m : List ℕ)
    → BeginningOf k more (run s limit late room answers m) (run s limit late (k + room) (answers ++ more) m)

-- The second state extends the first: no count is less, and the first's entries are the first entries of its log.
pub record Extends (first second : State) : Type 0 where
  pub entries : first.entries ≤ second.entries
  pub taken : first.taken ≤ second.taken
  pub polls : first.tally.polls ≤ second.tally.polls
  pub longest : first.tally.longest ≤ second.tally.longest
  pub log : take (first.entries * 2) second.log ≡ take (first.entries * 2) first.log

-- The state after steps extends the state that they are run from.
abbrev pub EveryAdvanceExtends : Type 0
EveryAdvanceExtends = (s : Steps) (limit : ℕ) (answers : List ℕ) (st : State) → Extends st (advance s limit answers st)

-- A call with a longer log and more answers extends the call without them; so a call that ended in 10 or 11 is the
-- beginning of the same call with more.
abbrev pub CallIsBeginning : Type 0
CallIsBeginning =
    (refused : ℕ) (s : Steps) (limit : ℕ) (answers more log behind m : List ℕ)
    → Extends (called refused s limit answers log m) (called refused s limit (answers ++ more) (log ++ behind) m)
