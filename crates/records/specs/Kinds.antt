-- The kinds of records (document 01, "Chain and sheet"): which fields are windows, which of their lengths 6 tests,
-- which fields have a largest value, and which are used at all. Fields are numbered as the words of a record: 0 the
-- kind, 1 to 6, 7 the next record.
use Rattle.std.specs.Prelude.{ℕ, Bool, true, false, List, [], ◌∷◌, get_or}
use Rattle.records.specs.declared.kinds.Window.{Window}
use Rattle.records.specs.declared.kinds.Cap.{Cap}
use Rattle.records.specs.declared.kinds.Kind.{Kind as Row}

-- the fields of a kind: its windows, those with a largest value, and all that it uses
pub record Kind : Type 0 where
  pub windows : List Window
  pub caps : List Cap
  pub used : List ℕ

abbrev window : ℕ → ℕ → Bool → Window
window s n p = record { start = s; size = n; phase = p }

abbrev cap : ℕ → ℕ → Cap
cap f n = record { field = f; most = n }

abbrev kind : List Window → List Cap → List ℕ → Kind
kind ws cs us = record { windows = ws; caps = cs; used = us }

abbrev pub none : Kind
none = kind [] [] []

-- the table: row k is kind k; there is no kind 0
abbrev pub kinds : List Kind
kinds =
    none
    ∷ kind (window 1 2 true ∷ []) [] (1 ∷ 2 ∷ [])  -- 1 write
    ∷ kind (window 1 2 true ∷ []) [] (1 ∷ 2 ∷ [])  -- 2 read
    ∷ kind (window 1 2 true ∷ window 3 4 true ∷ []) [] (1 ∷ 2 ∷ 3 ∷ 4 ∷ [])  -- 3 transfer
    ∷ kind (window 1 2 false ∷ []) [] (1 ∷ 2 ∷ [])  -- 4 in place
    ∷ kind [] [] (1 ∷ [])  -- 5 delay
    ∷ kind [] [] []  -- 6 flush
    ∷ kind [] (cap 1 6 ∷ []) (1 ∷ [])  -- 7 mode
    -- 8 quad read
    ∷ kind (window 1 2 false ∷ window 5 6 true ∷ []) (cap 4 255 ∷ []) (1 ∷ 2 ∷ 3 ∷ 4 ∷ 5 ∷ 6 ∷ [])
    ∷ kind (window 1 2 true ∷ window 5 6 true ∷ []) [] (1 ∷ 2 ∷ 5 ∷ 6 ∷ [])  -- 9 quad write
    ∷ []

abbrev pub kind_of : ℕ → Kind
kind_of k = get_or kinds k none

-- what a row of the code's table says
abbrev pub row : Row → Kind
row k = kind k.windows.now k.caps.now k.used.now
