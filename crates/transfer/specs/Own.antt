-- A transfer in place that sends the caller's own bytes, and the one that sends a copy of each part (request 3).
use Rattle.std.specs.Prelude.{◌≡◌, true, List, ℕ, zero, suc, ◌+◌, ◌-◌, ◌/◌, ◌≤◌, min, length}
use Rattle.std.specs.List.{range_with_len}
use Rattle.model.specs.Steps.{Steps, then}
use Rattle.model.specs.Steps.End.{done}
use Rattle.model.specs.Steps.Steps.{end}
use Rattle.model.specs.State.{State, advance, called}
use Rattle.model.specs.Own.{own}
use Rattle.qspi.specs.Phases.{tx_phase, rx_phase}
use Rattle.transfer.specs.Transfer.{in_place_steps}

-- n bytes of the memory from index `at` on: each is looked at there when it is sent, then they are received
unfoldable pub own_part_steps : ℕ → ℕ → Steps
own_part_steps at n = then (own (tx_phase true (range_with_len at n))) (rx_phase at n)

-- so many parts of 256 bytes, the last of what is left
unfoldable pub own_parts : ℕ → ℕ → ℕ → Steps
own_parts zero at n = end done
own_parts (suc count) at n =
    let part = min 256 n in then (own_part_steps at part) (own_parts count (at + part) (n - part))

-- n bytes of the memory from index `at` on
unfoldable pub own_in_place_steps : ℕ → ℕ → Steps
own_in_place_steps at n = own_parts ((n + 255) / 256) at n

-- Number, four counts, log and memory are those of sending a copy of each part, wherever it ends: of the steps from any
-- state on, at any place in its memory,
abbrev pub OwnBytes : Type 0
OwnBytes =
    (at n limit : ℕ) (answers : List ℕ) (st : State) → at + n ≤ length st.memory
    → advance (own_in_place_steps at n) limit answers st ≡ advance (in_place_steps at n) limit answers st

-- and of the call of all the lent words, whatever it is refused by.
abbrev pub OwnBytesCalled : Type 0
OwnBytesCalled =
    (refused limit : ℕ) (answers log words : List ℕ)
    → called refused (own_in_place_steps 0 (length words)) limit answers log words
    ≡ called refused (in_place_steps 0 (length words)) limit answers log words
