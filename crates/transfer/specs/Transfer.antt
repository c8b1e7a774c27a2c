-- Transfers (document 01): the write fully, then the read; in place by parts of 256.
use Rattle.std.specs.Prelude.{true, List, ℕ, zero, suc, ◌+◌, ◌-◌, ◌/◌, min, take, drop}
use Rattle.model.specs.Steps.{Steps, then}
use Rattle.model.specs.Steps.End.{done}
use Rattle.model.specs.Steps.Steps.{end, look}
use Rattle.qspi.specs.Phases.{tx_phase, rx_phase}

-- what is read goes to the memory from index `at` on
unfoldable pub transfer_steps : List ℕ → ℕ → ℕ → Steps
transfer_steps bytes at n = then (tx_phase true bytes) (rx_phase at n)

-- n bytes of the memory from index `at` on, sent as they stand when the part begins, then received
unfoldable pub part_steps : ℕ → ℕ → Steps
part_steps at n = look (λ m. transfer_steps (take n (drop at m)) at n)

-- so many parts of 256 bytes, the last of what is left
unfoldable pub parts : ℕ → ℕ → ℕ → Steps
parts zero at n = end done
parts (suc count) at n = let part = min 256 n in then (part_steps at part) (parts count (at + part) (n - part))

-- n bytes of the memory from index `at` on
unfoldable pub in_place_steps : ℕ → ℕ → Steps
in_place_steps at n = parts ((n + 255) / 256) at n
