-- How every run ends and what it leaves, whatever the steps.
use Rattle.std.specs.Prelude.{◌≡◌, false, List, [], ◌++◌, ◌⊎◌, ℕ, ◌+◌, ◌*◌, ◌≤◌, ◌<◌, length, take, drop}
use Rattle.model.specs.Event.{Event, answers_of, received, words, stored}
use Rattle.model.specs.Tally.{tally_of, longest_of}
use Rattle.model.specs.Steps.{Steps}
use Rattle.model.specs.Run.{Outcome, run}
use Rattle.model.specs.State.{State, advance}

-- the numbers that steps can end in
abbrev pub Met : ℕ → Type 0
Met n = (n ≡ 0) ⊎ (n ≡ 1) ⊎ (n ≡ 2) ⊎ (n ≡ 10) ⊎ (n ≡ 11)

pub record Ends (limit room : ℕ) (answers m : List ℕ) (o : Outcome) : Type 0 where
  pub number : Met o.number
  pub timeout : o.number ≡ 1 → longest_of o.trace ≡ limit  -- 1: a wait was as long as the limit
  pub full : o.number ≡ 10 → o.room ≡ 0  -- 10: all the room is used
  pub dry : o.number ≡ 11 → (o.rest ≡ []) × (0 < o.room)  -- 11: all the answers are used, and there is room
  pub waits : longest_of o.trace ≤ limit
  pub polls : (tally_of o.trace).polls ≤ length o.trace
  pub entries : o.room + length o.trace ≡ room
  pub taken : answers_of o.trace ++ o.rest ≡ answers
  pub bytes : o.memory ≡ received m o.trace  -- bytes that no entry received are as they were
  pub size : length o.memory ≡ length m

abbrev pub EveryRunEnds : Type 0
EveryRunEnds = (s : Steps) (limit room : ℕ) (answers m : List ℕ) → Ends limit room answers m (run s limit false room answers m)

-- The lent log after a trace that fits: the words before it, its own, and those past it as they were.
abbrev pub LogWords : Type 0
LogWords =
    (t : List Event) (log : List ℕ) (n : ℕ) → (n + length t) * 2 ≤ length log
    → stored log n t ≡ take (n * 2) log ++ words t ++ drop ((n + length t) * 2) log

-- What a caller's log and memory keep, whatever the steps: the entries made before, and the words past the last entry, an odd last one too.
pub record Kept (st st' : State) : Type 0 where
  pub earlier : take (st.entries * 2) st'.log ≡ take (st.entries * 2) st.log
  pub past : drop (st'.entries * 2) st'.log ≡ drop (st'.entries * 2) st.log
  pub log : length st'.log ≡ length st.log
  pub fits : st.entries * 2 ≤ length st.log → st'.entries * 2 ≤ length st.log
  pub memory : length st'.memory ≡ length st.memory

abbrev pub EveryAdvanceKeeps : Type 0
EveryAdvanceKeeps = (s : Steps) (limit : ℕ) (answers : List ℕ) (st : State) → Kept st (advance s limit answers st)
