-- What a caller by C names is told of a call: its number and its counts, beside the lent log and the lent memory.
use Rattle.std.specs.Prelude.{◌≡◌, List, ℕ}
use Rattle.model.specs.State.{State}
use Rattle.access.specs.declared.progress.Progress.{Progress}
use Rattle.access.specs.Of.{state_of}
use Rattle.counts.specs.declared.Counts.{Counts}

pub record Told : Type 0 where
  pub number : ℕ
  pub counts : Counts
  pub log : List ℕ
  pub memory : List ℕ

-- the counts of a state
abbrev pub counts_of : State → Counts
counts_of st = record { entries = st.entries; taken = st.taken; polls = st.tally.polls; longest = st.tally.longest }

-- what is told of a state
unfoldable pub told_of : State → Told
told_of st = record { number = st.number; counts = counts_of st; log = st.log; memory = st.memory }

-- the number and the counts of what a call came to, with any log and any memory
pub record Tells (p : Progress) (number : ℕ) (counts : Counts) : Type 0 where
  pub told : (log m : List ℕ)
      → record { number = number; counts = counts; log = log; memory = m } ≡ told_of (state_of p log m)
