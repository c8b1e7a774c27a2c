-- The check at edges that documents 01 and 02 name, as one table and one claim.
use Rattle.std.specs.Prelude.{ℕ, ◌≡◌, List, [], ◌∷◌, ◌++◌, map, Ok, Err}
use Rattle.config.specs.Error.{error_number}
use Rattle.records.specs.declared.rules.Rules.{Rules}
use Rattle.records.specs.declared.rules.Rules.TheVariants.{Sheet, Transaction}
use Rattle.records.specs.Check.{Checked, field, checked}

-- the number of a fault and its record, or 0 and the kinds on the chain
abbrev pub said : Checked → List ℕ
said (Err f) = error_number f.error ∷ f.record ∷ []
said (Ok rs) = 0 ∷ map (λ (r : List ℕ). field r 0) rs

pub record Row : Type 0 where
  pub rules : Rules
  pub memory : ℕ
  pub words : List ℕ
  pub found : List ℕ

abbrev row : Rules → ℕ → List ℕ → List ℕ → Row
row h m ws f = record { rules = h; memory = m; words = ws; found = f }

-- a delay of so many nanoseconds, with this next
abbrev delay : ℕ → ℕ → List ℕ
delay ns next = 5 ∷ ns ∷ 0 ∷ 0 ∷ 0 ∷ 0 ∷ 0 ∷ next ∷ []

abbrev pub rows : List Row
rows =
    row (Transaction 0) 0 ([]) (0 ∷ [])  -- an empty slice is an empty chain
    ∷ row (Transaction 0) 0 (1 ∷ 1 ∷ 1 ∷ 1 ∷ 1 ∷ 1 ∷ 1 ∷ []) (8 ∷ 0 ∷ [])  -- seven words
    -- start FFFFFFFF, length 2: the sum is no 32-bit sum
    ∷ row (Transaction 0) 1 (1 ∷ 4294967295 ∷ 2 ∷ 0 ∷ 0 ∷ 0 ∷ 0 ∷ 0 ∷ []) (9 ∷ 1 ∷ [])
    ∷ row (Transaction 0) 2 (1 ∷ 2 ∷ 0 ∷ 0 ∷ 0 ∷ 0 ∷ 0 ∷ 0 ∷ []) (0 ∷ 1 ∷ [])  -- an empty window at the end
    ∷ row (Transaction 0) 2 (1 ∷ 3 ∷ 0 ∷ 0 ∷ 0 ∷ 0 ∷ 0 ∷ 0 ∷ []) (9 ∷ 1 ∷ [])  -- and past it
    ∷ row (Transaction 0) 0 (6 ∷ 0 ∷ 0 ∷ 0 ∷ 0 ∷ 0 ∷ 0 ∷ 0 ∷ []) (8 ∷ 1 ∷ [])  -- a flush in a transaction
    ∷ row Sheet 0 (6 ∷ 0 ∷ 0 ∷ 0 ∷ 0 ∷ 0 ∷ 0 ∷ 0 ∷ []) (0 ∷ 6 ∷ [])  -- and in a sheet
    -- record 2 is off the chain
    ∷ row Sheet 1 (1 ∷ 0 ∷ 1 ∷ 0 ∷ 0 ∷ 0 ∷ 0 ∷ 3 ∷ 99 ∷ 0 ∷ 0 ∷ 0 ∷ 0 ∷ 0 ∷ 0 ∷ 77
    ∷ 4 ∷ 0 ∷ 1 ∷ 0 ∷ 0 ∷ 0 ∷ 0 ∷ 0 ∷ []) (0 ∷ 1 ∷ 4 ∷ [])
    ∷ row Sheet 0 (6 ∷ 0 ∷ 0 ∷ 0 ∷ 0 ∷ 0 ∷ 0 ∷ 1 ∷ []) (8 ∷ 1 ∷ [])  -- next is its own number
    ∷ row Sheet 0 (6 ∷ 0 ∷ 0 ∷ 0 ∷ 0 ∷ 0 ∷ 0 ∷ 2 ∷ []) (8 ∷ 1 ∷ [])  -- next past the last
    ∷ row Sheet 0 (8 ∷ 9 ∷ 9 ∷ 0 ∷ 256 ∷ 0 ∷ 0 ∷ 0 ∷ []) (8 ∷ 1 ∷ [])  -- margin 256 with a bad window
    ∷ row Sheet 0 (6 ∷ 0 ∷ 0 ∷ 0 ∷ 0 ∷ 0 ∷ 0 ∷ 2 ∷ 7 ∷ 7 ∷ 0 ∷ 0 ∷ 0 ∷ 0 ∷ 0 ∷ 0 ∷ []) (8 ∷ 2 ∷ [])  -- mode 7
    -- fields that kind 9 does not use
    ∷ row Sheet 2 (9 ∷ 0 ∷ 1 ∷ 4294967295 ∷ 4294967295 ∷ 1 ∷ 1 ∷ 0 ∷ []) (0 ∷ 9 ∷ [])
    -- a write of FFFFFF hex bytes
    ∷ row (Transaction 0) 16777216 (1 ∷ 0 ∷ 16777215 ∷ 0 ∷ 0 ∷ 0 ∷ 0 ∷ 0 ∷ []) (0 ∷ 1 ∷ [])
    ∷ row (Transaction 0) 16777216 (1 ∷ 0 ∷ 16777216 ∷ 0 ∷ 0 ∷ 0 ∷ 0 ∷ 0 ∷ []) (6 ∷ 1 ∷ [])  -- of 1000000 hex
    ∷ row (Transaction 0) 16777216 (4 ∷ 0 ∷ 16777216 ∷ 0 ∷ 0 ∷ 0 ∷ 0 ∷ 0 ∷ []) (0 ∷ 4 ∷ [])  -- and in place
    -- 9 comes before 6 in one record
    ∷ row (Transaction 0) 16777216 (3 ∷ 0 ∷ 16777216 ∷ 1 ∷ 16777216 ∷ 0 ∷ 0 ∷ 0 ∷ []) (9 ∷ 1 ∷ [])
    -- and the first record before the second
    ∷ row (Transaction 0) 16777216 (1 ∷ 0 ∷ 16777216 ∷ 0 ∷ 0 ∷ 0 ∷ 0 ∷ 2
    ∷ 99 ∷ 0 ∷ 0 ∷ 0 ∷ 0 ∷ 0 ∷ 0 ∷ 0 ∷ []) (6 ∷ 1 ∷ [])
    -- request 2: FFFFFFFF hex cycles are taken, and one more is not
    ∷ row (Transaction 4294967295) 0 (delay 1_000_000_000 0) (0 ∷ 5 ∷ [])
    ∷ row (Transaction 2147483648) 0 (delay 2_000_000_000 0) (14 ∷ 1 ∷ [])
    ∷ row Sheet 0 (delay 4294967295 0) (0 ∷ 5 ∷ [])  -- in a sheet any is
    ∷ row (Transaction 0) 0 (delay 4294967295 0) (0 ∷ 5 ∷ [])  -- and at no core rate
    ∷ row (Transaction 4294967295) 0 (delay 4294967295 2) (8 ∷ 1 ∷ [])  -- 8 comes before 14 in one record
    -- and the first record's 14 before the second's 9, or its 9 before the second's 14
    ∷ row (Transaction 4294967295) 0 (delay 4294967295 2 ++ (1 ∷ 0 ∷ 1 ∷ 0 ∷ 0 ∷ 0 ∷ 0 ∷ 0 ∷ [])) (14 ∷ 1 ∷ [])
    ∷ row (Transaction 4294967295) 0 (1 ∷ 0 ∷ 1 ∷ 0 ∷ 0 ∷ 0 ∷ 0 ∷ 2 ∷ delay 4294967295 0) (9 ∷ 1 ∷ [])
    ∷ []

abbrev pub Settled : Type 0
Settled = map (λ (r : Row). said (checked r.rules r.memory r.words)) rows ≡ map (λ (r : Row). r.found) rows
