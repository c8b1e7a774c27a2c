-- Calls that may be refused: what holds of their steps at two limits is lifted to the calls here, once.
use Rattle.std.specs.Prelude.{◌≡◌, List, ◌++◌, ℕ, ◌<◌}
use Rattle.model.specs.Steps.{Steps}
use Rattle.model.specs.State.{State, begun, advance, limit_first, called}
use Rattle.model.specs.Limit.{Ended, AgainCall}

-- a call with all that it is given but the limit, the answers, the log and the memory's bytes
pub record Refusable : Type 0 where
  pub refused_at : ℕ → ℕ  -- its refusal at a limit, or 0
  pub steps : Steps

-- number, counts, log and memory
abbrev pub made : Refusable → ℕ → List ℕ → List ℕ → List ℕ → State
made c limit answers log m = called (c.refused_at limit) c.steps limit answers log m

-- Its refusal is never 2, and where it is not refused at one limit it is not refused at any other from 1 up.
pub record Steady (c : Refusable) : Type 0 where
  pub accepted : (limit limit' : ℕ) → 0 < limit' → c.refused_at limit ≡ 0 → c.refused_at limit' ≡ 0
  pub never_2 : (limit : ℕ) → c.refused_at limit ≡ 2 → ⊥

-- refused by 7 at limit 0, else by a number that the limit does not matter to
abbrev pub limited : ℕ → Steps → Refusable
limited other s = record { refused_at = λ limit. limit_first limit other; steps = s }

abbrev pub LimitedSteady : Type 0
LimitedSteady = (other : ℕ) (s : Steps) → (other ≡ 2 → ⊥) → Steady (limited other s)

-- Where the first ends in 0 or 2, what relates the two runs of the steps from no entry on relates the two calls; the
-- second's limit, answers, log and memory may be others.
abbrev pub EndedLifts : Type 1
EndedLifts =
    (R : State → State → Type 0) (c : Refusable) → Steady c
    → (limit limit' : ℕ) (answers answers' log log' m m' : List ℕ) → 0 < limit'
    → (Ended (advance c.steps limit answers (begun log m)).number
    → R (advance c.steps limit answers (begun log m)) (advance c.steps limit' answers' (begun log' m')))
    → Ended (made c limit answers log m).number → R (made c limit answers log m) (made c limit' answers' log' m')

-- So demand 3 holds of every such call.
abbrev pub AnotherLimitCalled : Type 0
AnotherLimitCalled =
    (c : Refusable) → Steady c → (limit limit' : ℕ) (answers more log m : List ℕ) → 0 < limit'
    → Ended (made c limit answers log m).number
    → AgainCall limit' (made c limit answers log m) (made c limit' (answers ++ more) log m)
