-- Demand 1 for each call as its user sees it: what is refused touches no register and no lent byte.
use Rattle.std.specs.Prelude.{List, ℕ}
use Rattle.model.specs.Ends.{Met}
use Rattle.model.specs.Called.{Untouched}
use Rattle.bus.specs.Calls.{Call, outcome}

-- A call that ends in a number that no steps end in (6 and 7) has counts of 0, and the log and the memory are as they
-- were lent.
abbrev pub CallRefused : Type 0
CallRefused =
    (call : Call) (limit : ℕ) (answers log m : List ℕ) → (Met (outcome call limit answers log m).number → ⊥)
    → Untouched log m (outcome call limit answers log m)
