-- What a sheet prints: the lines of its run with a log of 4,096 entries.
use Rattle.std.specs.Prelude.{◌≡◌, List, ℕ, replicate}
use Rattle.model.specs.State.{State}
use Rattle.lines.specs.Text.{Ending, printed}
use Rattle.sheet_run.specs.Run.{sheet_state}

-- the number and the counts of a state
abbrev pub ending_in : State → Ending
ending_in st =
    record {
      number = st.number;
      entries = st.entries;
      taken = st.taken;
      polls = st.tally.polls;
      longest = st.tally.longest;
    }

-- the state in which the run ends, from a log of 4,096 entries of zeros
unfoldable pub end_state : List ℕ → State
end_state bs = sheet_state bs (replicate 8192 0)

unfoldable pub printed_sheet : List ℕ → List ℕ
printed_sheet bs = printed (end_state bs).log (ending_in (end_state bs))

-- the printed text, and the bytes afterwards
pub record Prints (bs t bs' : List ℕ) : Type 0 where
  pub text : t ≡ printed_sheet bs
  pub bytes : bs' ≡ (end_state bs).memory
