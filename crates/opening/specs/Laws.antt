-- What is proved of an opening and of a release, whatever they are given: demand 3, no polls, the rate of an opened
-- bus, and what a refusal leaves.
use Rattle.std.specs.Prelude.{◌≡◌, List, ◌++◌, ◌↔◌, ℕ, ◌<◌}
use Rattle.model.specs.Tally.{none}
use Rattle.model.specs.State.{begun, with_number}
use Rattle.model.specs.Ends.{Met}
use Rattle.model.specs.Called.{Untouched}
use Rattle.model.specs.Limit.{Ended, AgainCall}
use Rattle.model.specs.Refusable.{Refusable, Steady}
use Rattle.clock.specs.Clocked.{BusRate}
use Rattle.opening.specs.Steps.{release_steps}
use Rattle.opening.specs.declared.Opening.{Opening}
use Rattle.opening.specs.Call.{Result, opening_refusal, steps_of, opens, releases}

-- both as model lifts laws to them: what is made of these is their state
abbrev pub opening_refusable : Opening → Refusable
opening_refusable o = record { refused_at = opening_refusal o; steps = steps_of o }

abbrev pub release_refusable : ℕ → Refusable
release_refusable instance = record { refused_at = λ limit. 0; steps = release_steps instance }

abbrev pub OpeningSteady : Type 0
OpeningSteady = (o : Opening) → Steady (opening_refusable o)

abbrev pub ReleaseSteady : Type 0
ReleaseSteady = (instance : ℕ) → Steady (release_refusable instance)

-- The second opening against the first: done exactly when its limit is above the first's longest, and then alike, in
-- its rate too.
pub record AgainOpening (limit : ℕ) (first second : Result) : Type 0 where
  pub exactly : Ended second.state.number ↔ (first.state.tally.longest < limit)
  pub alike : first.state.tally.longest < limit → second ≡ first

-- Demand 3: the same opening at another limit from 1 up, with more answers behind.
abbrev pub OpeningAgain : Type 0
OpeningAgain =
    (o : Opening) (limit limit' : ℕ) (answers more log m : List ℕ) → 0 < limit'
    → Ended (opens o limit answers log m).state.number
    → AgainOpening limit' (opens o limit answers log m) (opens o limit' (answers ++ more) log m)

abbrev pub ReleaseAgain : Type 0
ReleaseAgain =
    (instance limit limit' : ℕ) (answers more log m : List ℕ) → 0 < limit'
    → Ended (releases instance limit answers log m).number
    → AgainCall limit' (releases instance limit answers log m) (releases instance limit' (answers ++ more) log m)

-- However they end, they make no poll.
abbrev pub OpeningPolls : Type 0
OpeningPolls = (o : Opening) (limit : ℕ) (answers log m : List ℕ) → (opens o limit answers log m).state.tally ≡ none

abbrev pub ReleasePolls : Type 0
ReleasePolls = (instance limit : ℕ) (answers log m : List ℕ) → (releases instance limit answers log m).tally ≡ none

-- A refused opening leaves counts of 0, and the log and the memory as they were; its rate is 0.
abbrev pub OpeningRefused : Type 0
OpeningRefused =
    (o : Opening) (limit : ℕ) (answers log m : List ℕ) → (opening_refusal o limit ≡ 0 → ⊥)
    → opens o limit answers log m ≡ record { state = with_number (opening_refusal o limit) (begun log m); rate = 0 }

-- Request 13: each opened bus has a rate from 1 to 100,000,000 Hz.
abbrev pub OpenedRate : Type 0
OpenedRate =
    (o : Opening) (limit : ℕ) (answers log m : List ℕ) → (opens o limit answers log m).state.number ≡ 0
    → BusRate (opens o limit answers log m).rate

-- By its number: an opening that ends in a number that no steps end in has touched no register and no lent byte, and
-- gives no rate.
abbrev pub OpeningUntouched : Type 0
OpeningUntouched =
    (o : Opening) (limit : ℕ) (answers log m : List ℕ) → (Met (opens o limit answers log m).state.number → ⊥)
    → Untouched log m (opens o limit answers log m).state × ((opens o limit answers log m).rate ≡ 0)
