-- How a phase moves its bytes (document 01, "Steps"): the wait ends with a count; that many bytes, or what is left,
-- move with no wait between them; again until none is left.
use Rattle.std.specs.Prelude.{◌≡◌, Bool, true, List, [], ◌∷◌, map, take, drop, length}
use Rattle.std.specs.Prelude.{ℕ, suc, ◌+◌, ◌-◌, ◌≤◌, min}
use Rattle.model.specs.Wait.{count_of, ready}
use Rattle.model.specs.Wait.Cause.{space, received}
use Rattle.model.specs.Steps.{Steps, then}
use Rattle.model.specs.Steps.End.{done}
use Rattle.model.specs.Steps.Steps.{end, wait}
use Rattle.model.specs.Run.{run}
use Rattle.qspi.specs.Phases.{moved_all, paced, gots}
use Rattle.qspi.specs.Phases.Move.{sent}

-- What a phase does while these bytes are left to send, and while n bytes are left to get, to the memory from index
-- `at` on.
abbrev pub sending : List ℕ → Steps
sending left = paced space 0 (map sent left)

abbrev pub getting : ℕ → ℕ → Steps
getting at n = paced received 0 (gots at n)

-- what follows a wait that ends with a count: that many bytes, or what is left, then what is left after them
abbrev pub sending_on : List ℕ → ℕ → Steps
sending_on left count =
    let n = min count (length left) in
    then (moved_all (map sent (take n left))) (sending (drop n left))

abbrev pub getting_on : ℕ → ℕ → ℕ → Steps
getting_on at left count =
    let n = min count left in
    then (moved_all (gots at n)) (getting (at + n) (left - n))

-- no run tells them apart
abbrev pub Alike : Steps → Steps → Type 0
Alike s t =
    (limit : ℕ) (late : Bool) (room : ℕ) (answers m : List ℕ)
    → run s limit late room answers m ≡ run t limit late room answers m

pub record Portions : Type 0 where
  -- with none left nothing is done, nor waited for
  pub none_to_send : sending [] ≡ end done
  pub none_to_get : (at : ℕ) → getting at 0 ≡ end done
  -- with some left: a wait, and the portion that it ends with
  pub sends : (b : ℕ) (bs : List ℕ) → Alike (sending (b ∷ bs)) (wait space (sending_on (b ∷ bs)) (end done))
  pub gets : (at n : ℕ) → Alike (getting at (suc n)) (wait received (getting_on at (suc n)) (end done))

-- the counts that these waits end with: so fewer are left after each
pub record ReadyCounts : Type 0 where
  pub space : (word : ℕ) → ready space word ≡ true → (1 ≤ count_of space word) × (count_of space word ≤ 64)
  pub received : (word : ℕ) → ready received word ≡ true → (1 ≤ count_of received word) × (count_of received word ≤ 255)
