-- Calls that go on from a state which earlier calls have left: log, answers and counts as those left them.
use Rattle.std.specs.Prelude.{◌≡◌, List, [], ◌∷◌, ◌⊎◌, ℕ, replicate}
use Rattle.model.specs.State.{State, with_number, begun}
use Rattle.model.specs.Ends.{Met, Kept}
use Rattle.bus.specs.Calls.{Call, outcome, outcome_from}
use Rattle.bus.specs.Calls.Call.{flush}

-- From no entry on it is the call as its user sees it.
abbrev pub CallFromBegun : Type 0
CallFromBegun =
    (call : Call) (limit : ℕ) (answers log m : List ℕ)
    → outcome_from call limit answers (begun log m) ≡ outcome call limit answers log m

-- Once a number is not 0 nothing is done.
abbrev pub CallStays : Type 0
CallStays =
    (call : Call) (limit : ℕ) (answers : List ℕ) (st : State) → (st.number ≡ 0 → ⊥)
    → outcome_from call limit answers st ≡ st

-- Else it ends in 6 or 7, and all but the number stands as it was; or in a number that steps end in.
abbrev pub CallFromEnds : Type 0
CallFromEnds =
    (call : Call) (limit : ℕ) (answers : List ℕ) (st : State) → st.number ≡ 0
    → let st' = outcome_from call limit answers st in
    (((st'.number ≡ 6) ⊎ (st'.number ≡ 7)) × (st' ≡ with_number st'.number st)) ⊎ Met st'.number

-- However it ends, the entries made before stay, and the words past the last entry.
abbrev pub CallFromKeeps : Type 0
CallFromKeeps = (call : Call) (limit : ℕ) (answers : List ℕ) (st : State) → Kept st (outcome_from call limit answers st)

-- a state after two entries, one answer and one unready poll
abbrev pub on_the_way : ℕ → State
on_the_way n =
    record {
      number = n;
      entries = 2;
      taken = 1;
      tally = record { polls = 1; longest = 1 };
      log = replicate 8 7;
      memory = [];
    }

abbrev pub flush_from : ℕ → ℕ → State
flush_from limit n = outcome_from flush limit (9 ∷ 0x80000000 ∷ 0 ∷ []) (on_the_way n)

-- Settled instances, which are also instances of what the laws ask for.
pub record CallFromMet : Type 0 where
  -- the log goes on behind its entries and the answers behind those taken; polls are added, and longest is the larger
  pub goes_on :
      flush_from 3 0
      ≡ record {
        number = 0;
        entries = 4;
        taken = 3;
        tally = record { polls = 3; longest = 1 };
        log = 7 ∷ 7 ∷ 7 ∷ 7 ∷ 0x10008 ∷ 0x80000000 ∷ 0x10008 ∷ 0 ∷ [];
        memory = [];
      }
  pub timeout : (flush_from 1 0).number ≡ 1
  pub refused : flush_from 0 0 ≡ on_the_way 7
  pub ended : flush_from 0 1 ≡ on_the_way 1
