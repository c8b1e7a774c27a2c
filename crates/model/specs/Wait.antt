-- The four waits: what each is for, the register that it polls, and the count that it ends with (document 01, "Steps").
use Rattle.std.specs.Prelude.{Bool, ℕ, ◌-◌, ltb, eqb}
use Rattle.model.specs.Field.{get_field}

-- space in the transmit FIFO, received bytes, an empty transmit FIFO, START clear
pub data Cause : Type 0 where
  space received empty start : Cause

-- the register that the wait polls: fifo_status or trans_config
abbrev pub place_of : Cause → ℕ
place_of space = 0x01c
place_of received = 0x01c
place_of empty = 0x01c
place_of start = 0x008

-- the count that the wait ends with: the free count, 64 less the FIFO's count and never below 0, or the receive count
abbrev pub count_of : Cause → ℕ → ℕ
count_of space word = 64 - get_field 16 8 word
count_of received word = get_field 0 8 word
count_of empty word = 0
count_of start word = 0

-- does the word have what the wait is for; if not the poll is unready (document 01's term)
abbrev pub ready : Cause → ℕ → Bool
ready space word = ltb 0 (count_of space word)
ready received word = ltb 0 (count_of received word)
ready empty word = eqb (get_field 16 8 word) 0
ready start word = eqb (get_field 31 1 word) 0
