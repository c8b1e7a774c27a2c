-- A settled instance: two bytes in place within four, sent from the memory itself.
use Rattle.std.specs.Prelude.{◌≡◌, [], ◌∷◌, ◌++◌, ◌+◌, ◌≤◌, length, replicate, take, drop}
use Rattle.model.specs.State.{State, begun, advance}
use Rattle.transfer.specs.Own.{own_in_place_steps}

abbrev pub lent : State
lent = begun (replicate 62 7) (1 ∷ 2 ∷ 3 ∷ 4 ∷ [])

-- space for 64 bytes, an empty FIFO, then two received
unfoldable pub exchanged : State
exchanged = advance (own_in_place_steps 1 2) 1 (replicate 13 0 ++ 2 ∷ 0x1aa ∷ 0xbb ∷ 0 ∷ []) lent

pub record Settled : Type 0 where
  pub number : exchanged.number ≡ 0
  pub entries : exchanged.entries ≡ 31
  -- entries 13 and 14 send what stood in the two places, which then hold what was received
  pub sent : take 4 (drop 24 exchanged.log) ≡ 0x30200 ∷ 2 ∷ 0x30200 ∷ 3 ∷ []
  pub memory : exchanged.memory ≡ 1 ∷ 0xaa ∷ 0xbb ∷ 4 ∷ []
  -- what the law asks for
  pub inside : 1 + 2 ≤ length lent.memory
