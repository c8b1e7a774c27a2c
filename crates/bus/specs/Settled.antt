-- Settled instances: where a call is cut, what is ready for which wait, what follows data that failed; and instances of what the laws ask for.
use Rattle.std.specs.Prelude.{◌≡◌, true, false, List, [], ◌∷◌, ◌++◌, ℕ, ◌*◌, replicate}
use Rattle.model.specs.State.{State}
use Rattle.model.specs.Ends.{Met}
use Rattle.config.specs.declared.config.WorkMode.TheVariants.{Qpi}
use Rattle.bus.specs.Calls.{Call, outcome}
use Rattle.bus.specs.Calls.Call.{write, read, transfer_in_place, flush, set_work_mode, read_quad}

-- number, entries, answers, polls, longest of a call with room for so many entries; its first five answers are 0
unfoldable pub end_of : Call → ℕ → ℕ → List ℕ → List ℕ
end_of call limit room answers =
    let st = outcome call limit (replicate 5 0 ++ answers) (replicate (2 * room) 7) (replicate 300 9) in
    st.number ∷ st.entries ∷ st.taken ∷ st.tally.polls ∷ st.tally.longest ∷ []

-- a quad read of n bytes with a command of one byte and no dummies
abbrev pub quad : ℕ → Call
quad n = read_quad 0 (0xab ∷ []) 0 0 n

pub record Settled : Type 0 where
  -- a change cut between its read and its write: the read stands, and no read of a change is a poll
  pub cut_in_a_change : end_of (write (0xab ∷ [])) 3 1 [] ≡ 10 ∷ 1 ∷ 1 ∷ 0 ∷ 0 ∷ []
  pub cut_in_start : end_of (write (0xab ∷ [])) 3 10 [] ≡ 10 ∷ 10 ∷ 5 ∷ 0 ∷ 0 ∷ []
  -- 1 where the last unready poll is the last entry and takes the last answer
  pub last_poll : end_of (write (0xab ∷ [])) 1 12 (0x400000 ∷ []) ≡ 1 ∷ 12 ∷ 6 ∷ 1 ∷ 1 ∷ []
  -- a transmit count of 255 leaves no space; the ready poll after it is none of the unready ones
  pub no_space : end_of (write (0xab ∷ [])) 2 16 (0xff0000 ∷ 0 ∷ 0 ∷ 0 ∷ []) ≡ 0 ∷ 16 ∷ 9 ∷ 4 ∷ 1 ∷ []
  -- 10 bytes in the transmit FIFO: ready for space, unready for an empty FIFO and for received data
  pub space_not_empty : end_of (write (0xab ∷ [])) 1 16 (0xa0000 ∷ 0xa0000 ∷ []) ≡ 1 ∷ 14 ∷ 7 ∷ 2 ∷ 1 ∷ []
  pub none_received : end_of (read 1) 1 16 (0xa0000 ∷ []) ≡ 1 ∷ 12 ∷ 6 ∷ 1 ∷ 1 ∷ []
  -- a receive count of 255 is taken as it comes
  pub counts_255_45 : end_of (read 300) 1 314 (255 ∷ replicate 255 1 ++ 45 ∷ replicate 46 0) ≡ 0 ∷ 314 ∷ 308 ∷ 3 ∷ 0 ∷ []
  -- an empty phase makes no access
  pub empty_write : end_of (write []) 1 0 [] ≡ 0 ∷ 0 ∷ 0 ∷ 0 ∷ 0 ∷ []
  pub empty_read : end_of (read 0) 1 0 [] ≡ 0 ∷ 0 ∷ 0 ∷ 0 ∷ 0 ∷ []
  -- 7 before 6; both leave no count
  pub limit_0 : end_of (read 0x1000000) 0 314 [] ≡ 7 ∷ 0 ∷ 0 ∷ 0 ∷ 0 ∷ []
  pub too_long : end_of (read 0x1000000) 1 314 [] ≡ 6 ∷ 0 ∷ 0 ∷ 0 ∷ 0 ∷ []
  -- unsupported comes after the wait, and needs no further entry
  pub mode_2 : end_of (set_work_mode false Qpi) 3 1 [] ≡ 2 ∷ 1 ∷ 1 ∷ 1 ∷ 0 ∷ []
  pub mode_full : end_of (set_work_mode false Qpi) 3 0 [] ≡ 10 ∷ 0 ∷ 0 ∷ 0 ∷ 0 ∷ []
  pub mode_qpi : end_of (set_work_mode true Qpi) 3 9 [] ≡ 0 ∷ 3 ∷ 2 ∷ 1 ∷ 0 ∷ []
  -- 257 bytes in place are two parts
  pub two_parts :
      end_of (transfer_in_place 257) 1 572 (replicate 11 0 ++ 255 ∷ replicate 255 5 ++ 1 ∷ 5 ∷ replicate 14 0 ++ 1 ∷ 5 ∷ 0 ∷ []) ≡ 0 ∷ 572 ∷ 291 ∷ 14 ∷ 0 ∷ []
  -- a quad read whose data times out: Standard is tried; 10 and 11 that it meets win, and its own timeout is 1 too
  pub quad_late : end_of (quad 1) 2 38 (replicate 16 0) ≡ 1 ∷ 38 ∷ 21 ∷ 7 ∷ 2 ∷ []
  pub quad_late_dry : end_of (quad 1) 2 38 (replicate 13 0) ≡ 11 ∷ 33 ∷ 18 ∷ 6 ∷ 2 ∷ []
  pub quad_late_full : end_of (quad 1) 2 33 (replicate 16 0) ≡ 10 ∷ 33 ∷ 18 ∷ 6 ∷ 2 ∷ []
  pub quad_late_twice : end_of (quad 1) 2 38 (replicate 13 0 ++ 0x80000000 ∷ 0x80000000 ∷ []) ≡ 1 ∷ 35 ∷ 20 ∷ 8 ∷ 2 ∷ []
  -- the START waits of the data and of Standard are counted apart
  pub quad_apart :
      end_of (quad 1) 2 41 (replicate 11 0 ++ 1 ∷ 5 ∷ 0x80000000 ∷ 0x80000000 ∷ 0x80000000 ∷ 0 ∷ 0 ∷ 0 ∷ []) ≡ 1 ∷ 41 ∷ 24 ∷ 9 ∷ 2 ∷ []
  -- failing before the data, the call stops
  pub quad_stops : end_of (quad 1) 1 38 (0x400000 ∷ []) ≡ 1 ∷ 12 ∷ 6 ∷ 1 ∷ 1 ∷ []
  -- without a command, dummies and data there are the two modes
  pub quad_empty : end_of (read_quad 0 [] 0 0 0) 1 10 (0 ∷ []) ≡ 0 ∷ 10 ∷ 6 ∷ 2 ∷ 0 ∷ []

-- a flush with two unready polls before a ready one
abbrev pub flush_at : ℕ → State
flush_at limit = outcome flush limit (0x80000000 ∷ 0x80000000 ∷ 0 ∷ []) (replicate 6 7) []

-- What the laws ask for can be had.
pub record HypothesesMet : Type 0 where
  -- a flush that ends in 0 after two unready polls, and in 1 at limit 2, which is not above its longest
  pub flushed : (flush_at 3).number ≡ 0
  pub longest : (flush_at 3).tally.longest ≡ 2
  pub flushed_again : (flush_at 2).number ≡ 1
  -- a mode that ends in 2
  pub unsupported : (outcome (set_work_mode false Qpi) 3 (0x80000000 ∷ 0 ∷ []) (replicate 6 7) []).number ≡ 2
  -- calls that end in 6 and in 7
  pub too_long : (outcome (read 0x1000000) 1 [] [] []).number ≡ 6
  pub limit_0 : (outcome flush 0 [] [] []).number ≡ 7
  -- one that ends in a number that no steps end in
  pub refused : Met (outcome flush 0 [] [] []).number → ⊥
