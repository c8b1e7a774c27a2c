-- The calls: their steps, what is refused before them, and what a user is given for every input (document 01, "How a call ends").
use Rattle.std.specs.Prelude.{Bool, true, false, cond, List, [], ◌∷◌, ℕ, ltb, length}
use Rattle.model.specs.Wait.Cause.{start}
use Rattle.model.specs.Steps.{Steps, wait_for}
use Rattle.model.specs.State.{State, limit_first, called_from, called}
use Rattle.config.specs.declared.config.WorkMode.{WorkMode}
use Rattle.clock.specs.Dummies.{dummies}
use Rattle.qspi.specs.Phases.{tx_phase, rx_phase}
use Rattle.mode.specs.Mode.{work_mode_steps}
use Rattle.transfer.specs.Transfer.{transfer_steps, in_place_steps}
use Rattle.quad.specs.Quad.{framed, quad_steps}

-- What is received goes to the lent memory from index 0 on.
pub data Call : Type 0 where
  write : List ℕ → Call
  read : ℕ → Call  -- the length
  transfer : List ℕ → ℕ → Call  -- what is written, the length of what is read
  transfer_in_place : ℕ → Call  -- the length
  flush : Call
  set_work_mode : Bool → WorkMode → Call  -- the chip has QPI
  read_quad : ℕ → List ℕ → ℕ → ℕ → ℕ → Call  -- the rate, the command, tclqv, margin, the length of the data
  write_quad : List ℕ → List ℕ → Call  -- the command, the data

unfoldable pub steps_of : Call → Steps
steps_of (write bytes) = tx_phase true bytes
steps_of (read n) = rx_phase 0 n
steps_of (transfer bytes n) = transfer_steps bytes 0 n
steps_of (transfer_in_place n) = in_place_steps 0 n
steps_of flush = wait_for start
steps_of (set_work_mode qpi mode) = work_mode_steps qpi mode
steps_of (read_quad rate command tclqv margin n) = quad_steps (framed command (dummies rate tclqv margin)) (rx_phase 0 n)
steps_of (write_quad command bytes) = quad_steps command (tx_phase false bytes)

-- the lengths that 6 is about
unfoldable pub lengths_of : Call → List ℕ
lengths_of (write bytes) = length bytes ∷ []
lengths_of (read n) = n ∷ []
lengths_of (transfer bytes n) = length bytes ∷ n ∷ []
lengths_of (transfer_in_place n) = []
lengths_of flush = []
lengths_of (set_work_mode qpi mode) = []
lengths_of (read_quad rate command tclqv margin n) = n ∷ []
lengths_of (write_quad command bytes) = length command ∷ length bytes ∷ []

-- 6 for a length above FFFFFF hex, else 0
unfoldable pub too_long : List ℕ → ℕ
too_long [] = 0
too_long (n ∷ ns) = cond (ltb 0xFFFFFF n) 6 (too_long ns)

-- what is refused before any access: 7 for limit 0, then 6; else 0
unfoldable pub refusal : ℕ → List ℕ → ℕ
refusal limit lengths = limit_first limit (too_long lengths)

-- number, counts, log and memory
unfoldable pub outcome : Call → ℕ → List ℕ → List ℕ → List ℕ → State
outcome call limit answers log m = called (refusal limit (lengths_of call)) (steps_of call) limit answers log m

-- the same from a state on
unfoldable pub outcome_from : Call → ℕ → List ℕ → State → State
outcome_from call limit answers st = called_from (refusal limit (lengths_of call)) (steps_of call) limit answers st
