-- What the steps of a quad call come to, by how its parts end (document 01, "Quad read"): failing before the data, the
-- call stops; afterwards Standard is still tried and its failure wins.
use Rattle.std.specs.Prelude.{◌≡◌, List, [], ◌∷◌, ◌⊎◌, ℕ, ◌*◌, ◌<◌, replicate}
use Rattle.model.specs.Steps.{Steps, then}
use Rattle.model.specs.State.{State, begun, with_number, advance}
use Rattle.qspi.specs.Phases.{rx_phase}
use Rattle.quad.specs.Quad.{standard_mode, quad_start, quad_steps}

-- Failing before the data, the call stops.
abbrev pub StopsBefore : Type 0
StopsBefore =
    (command : List ℕ) (phase : Steps) (limit : ℕ) (answers : List ℕ) (st : State)
    → ((advance (quad_start command) limit answers st).number ≡ 0 → ⊥)
    → advance (quad_steps command phase) limit answers st ≡ advance (quad_start command) limit answers st

-- Standard from the state that the data left, whatever its number
abbrev pub tried : ℕ → List ℕ → State → State
tried limit answers st = advance standard_mode limit answers (with_number 0 st)

-- the numbers by which Standard fails
abbrev pub Fails : ℕ → Type 0
Fails n = (n ≡ 1) ⊎ (n ≡ 10) ⊎ (n ≡ 11)

-- `left`: the state that the data left; `ended`: the one that the call ends with
pub record StillTried (limit : ℕ) (answers : List ℕ) (left ended : State) : Type 0 where
  pub either : ((tried limit answers left).number ≡ 0) ⊎ Fails (tried limit answers left).number
  -- its failure wins
  pub fails : Fails (tried limit answers left).number → ended ≡ tried limit answers left
  -- else the first failure's number stands, or 0 where there was none
  pub done : (tried limit answers left).number ≡ 0 → ended ≡ with_number left.number (tried limit answers left)
  -- after 10 or 11 Standard meets it at once, and makes no entry
  pub cut : (left.number ≡ 10) ⊎ (left.number ≡ 11) → ended ≡ left

-- However the data ends, Standard is still tried.
abbrev pub StandardStillTried : Type 0
StandardStillTried =
    (command : List ℕ) (phase : Steps) (limit : ℕ) (answers : List ℕ) (st : State) → 0 < limit
    → (advance (quad_start command) limit answers st).number ≡ 0
    → StillTried limit answers (advance (then (quad_start command) phase) limit answers st)
    (advance (quad_steps command phase) limit answers st)

-- A quad read of one byte at limit 2, in a log of so many entries. With these answers its command is sent, nothing is
-- received, and Standard finds START clear.
abbrev pub begins : ℕ → State
begins entries = begun (replicate (2 * entries) 7) (9 ∷ [])

abbrev pub unreceived : List ℕ
unreceived = replicate 21 0

-- the state that its data leaves
abbrev pub left : ℕ → List ℕ → State
left entries answers = advance (then (quad_start (0xab ∷ [])) (rx_phase 0 1)) 2 answers (begins entries)

-- What the laws ask for can be had: a start that fails; data that times out, after which Standard is done or finds the
-- log full; and data that is cut.
pub record HypothesesMet : Type 0 where
  pub stops : (advance (quad_start (0xab ∷ [])) 2 [] (begins 38)).number ≡ 11
  pub goes_on : (advance (quad_start (0xab ∷ [])) 2 unreceived (begins 38)).number ≡ 0
  pub late : (left 38 unreceived).number ≡ 1
  pub done : (tried 2 unreceived (left 38 unreceived)).number ≡ 0
  pub fails : (tried 2 unreceived (left 33 unreceived)).number ≡ 10
  pub cut : (left 38 (replicate 13 0)).number ≡ 11
