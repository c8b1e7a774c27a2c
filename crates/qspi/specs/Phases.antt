-- The phases of a transfer (document 01, "Steps").
use Rattle.std.specs.Prelude.{Bool, cond, List, [], ◌∷◌, map, ℕ, zero, suc, pred, ◌+◌, length}
use Rattle.model.specs.Field.{set_field}
use Rattle.model.specs.Wait.{Cause}
use Rattle.model.specs.Wait.Cause.{space, received, empty, start}
use Rattle.model.specs.Event.Act.{send}
use Rattle.model.specs.Steps.{Steps, then, change, pause, wait_for}
use Rattle.model.specs.Steps.End.{done}
use Rattle.model.specs.Steps.Steps.{end, act, get, wait}

-- 018 bits 31 and 15; delay 10
unfoldable pub reset_fifos : Steps
reset_fifos = then (change 0x018 (λ w. set_field 15 1 1 (set_field 31 1 1 w))) (pause 10)

-- 030 the length; 034 the bytes to send
unfoldable pub program_transfer : ℕ → ℕ → Steps
program_transfer total tx = then (change 0x030 (set_field 0 24 total)) (change 0x034 (set_field 0 24 tx))

-- 038 bits 0 to 23 the bytes on a single line, bits 24 to 27 the hardware's dummy bytes; 008 START
unfoldable pub start_transfer : ℕ → ℕ → Steps
start_transfer single dummy =
    then (change 0x038 (λ w. set_field 24 4 dummy (set_field 0 24 single w))) (change 0x008 (set_field 31 1 1))

unfoldable pub begin_transfer : ℕ → ℕ → ℕ → ℕ → Steps
begin_transfer total tx single dummy = then (program_transfer total tx) (start_transfer single dummy)

-- a byte to the transmit FIFO, or one from the receive FIFO to an index of the memory
pub data Move : Type 0 where
  sent : ℕ → Move
  got : ℕ → Move

unfoldable pub moved : Move → Steps → Steps
moved (sent b) s = act (send b) s
moved (got i) s = get i s

-- one after the other, with no wait
unfoldable pub moved_all : List Move → Steps
moved_all [] = end done
moved_all (x ∷ xs) = moved x (moved_all xs)

-- The wait ends with a count; that many moves, or what is left; again until none is left. `count` moves need no wait.
unfoldable pub paced : Cause → ℕ → List Move → Steps
paced c count [] = end done
paced c zero (x ∷ xs) = wait c (λ count. moved x (paced c (pred count) xs)) (end done)
paced c (suc count) (x ∷ xs) = moved x (paced c count xs)

-- n bytes to the memory from index `at` on
unfoldable pub gots : ℕ → ℕ → List Move
gots at zero = []
gots at (suc n) = got at ∷ gots (at + 1) n

-- A phase that sends: all on a single line, or on as many as the mode has. An empty one makes no access.
unfoldable pub tx_phase : Bool → List ℕ → Steps
tx_phase single [] = end done
tx_phase single (b ∷ bs) =
    let n = length (b ∷ bs) in
    then reset_fifos
    (then (begin_transfer n n (cond single n 0) 0) (then (paced space 0 (map sent (b ∷ bs))) (then (wait_for empty) (wait_for start))))

-- A phase that receives n bytes to the memory from index `at` on.
unfoldable pub rx_phase : ℕ → ℕ → Steps
rx_phase at zero = end done
rx_phase at (suc n) = then reset_fifos (then (begin_transfer (suc n) 0 0 0) (then (paced received 0 (gots at (suc n))) (wait_for start)))
