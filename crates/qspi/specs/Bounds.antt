-- Demand 3's bound on polls: a write of n bytes polls at most limit × (n + 2) times, a read limit × (n + 1), however it ends.
use Rattle.std.specs.Prelude.{Bool, List, ℕ, ◌+◌, ◌*◌, ◌≤◌, length}
use Rattle.model.specs.Wait.{Cause}
use Rattle.model.specs.Tally.{tally_of}
use Rattle.model.specs.Run.{run}
use Rattle.model.specs.State.{State, advance}
use Rattle.model.specs.Polls.{by_cause, Bounded}
use Rattle.qspi.specs.Phases.{tx_phase, rx_phase}

-- The waits for each cause, in the order space, received, empty, start. A write: one for space for each byte, and the
-- two after them.
abbrev pub write_waits : ℕ → Cause → ℕ
write_waits n = by_cause n 0 1 1

-- A read: one for received data for each byte, and START.
abbrev pub read_waits : ℕ → Cause → ℕ
read_waits n = by_cause 0 n 0 1

-- the entries that are no polls: five changes and a delay, and the bytes
abbrev pub further_entries : ℕ → ℕ
further_entries n = 11 + n

-- So many at most, on every path of a phase, whatever they weigh.
pub record PhasesBounded : Type 0 where
  pub write : (single : Bool) (bytes : List ℕ)
      → Bounded (write_waits (length bytes)) (further_entries (length bytes)) (tx_phase single bytes)
  pub read : (at n : ℕ) → Bounded (read_waits n) (further_entries n) (rx_phase at n)

-- of a run, whatever the log's room, the answers and the memory
abbrev pub WritePolls : Type 0
WritePolls =
    (single : Bool) (bytes : List ℕ) (limit : ℕ) (late : Bool) (room : ℕ) (answers m : List ℕ)
    → (tally_of (run (tx_phase single bytes) limit late room answers m).trace).polls ≤ limit * (length bytes + 2)

abbrev pub ReadPolls : Type 0
ReadPolls =
    (at n limit : ℕ) (late : Bool) (room : ℕ) (answers m : List ℕ)
    → (tally_of (run (rx_phase at n) limit late room answers m).trace).polls ≤ limit * (n + 1)

-- of a caller's state: what the phase adds to its polls, wherever the call stands
abbrev pub WriteAdds : Type 0
WriteAdds =
    (single : Bool) (bytes : List ℕ) (limit : ℕ) (answers : List ℕ) (st : State)
    → (advance (tx_phase single bytes) limit answers st).tally.polls ≤ st.tally.polls + limit * (length bytes + 2)

abbrev pub ReadAdds : Type 0
ReadAdds =
    (at n limit : ℕ) (answers : List ℕ) (st : State)
    → (advance (rx_phase at n) limit answers st).tally.polls ≤ st.tally.polls + limit * (n + 1)
