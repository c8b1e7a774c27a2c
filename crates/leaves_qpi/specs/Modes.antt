-- The modes that a case's call runs, in their order: whether each leaves QPI (tests/oracle/README.md says what a case
-- is).
use Rattle.std.specs.Prelude.{Bool, true, not, cond, List, [], ◌∷◌, ◌++◌, ℕ, zero, suc, ◌+◌, ◌*◌, ◌/◌, ◌%◌, eqb, length}
use Rattle.std.specs.Prelude.{get_or, bytes_eq, codes}
use Rattle.cases.specs.Number.{numbers_of}
use Rattle.cases.specs.Find.{name_of}

abbrev pub mode_name : List ℕ
mode_name = codes "mode"

abbrev pub sheet_name : List ℕ
sheet_name = codes "sheet"

-- a byte of a sheet: they stand after their count and how many of them are given; the others are 0
abbrev pub sheet_byte : List ℕ → ℕ → ℕ
sheet_byte numbers i = get_or numbers (i + 2) 0 % 256

-- the word of its four bytes from i on, the least significant first
abbrev pub sheet_word : List ℕ → ℕ → ℕ
sheet_word numbers i =
    sheet_byte numbers i
    + 256 * (sheet_byte numbers (i + 1) + 256 * (sheet_byte numbers (i + 2) + 256 * sheet_byte numbers (i + 3)))

-- word n of the record after so many others: kind, f1 to f6, next
abbrev pub record_word : List ℕ → ℕ → ℕ → ℕ
record_word numbers before n = sheet_word numbers (20 + 32 * before + 4 * n)

-- a mode of its own, or the two of a quad call
unfoldable pub record_modes : List ℕ → ℕ → List Bool
record_modes numbers before =
    let kind = record_word numbers before 0 in
    cond (eqb kind 7) (not (eqb (record_word numbers before 1) 6) ∷ [])
    (cond (eqb kind 8) (true ∷ true ∷ []) (cond (eqb kind 9) (true ∷ true ∷ []) []))

-- those of the records on the chain: `on` is the number of the next one, which stands after the one before it; `left`:
-- how many records are left to look at
unfoldable pub modes_along : List ℕ → ℕ → ℕ → ℕ → List Bool
modes_along numbers on before zero = []
modes_along numbers on before (suc left) =
    cond (eqb on (before + 1))
    (record_modes numbers before ++ modes_along numbers (record_word numbers before 7) (before + 1) left)
    (modes_along numbers on (before + 1) left)

-- the number of the record that a chain begins with; 0 where there are none
abbrev pub first_record : List ℕ → ℕ
first_record numbers = cond (eqb (sheet_word numbers 12) 0) 0 1

-- a record past the bytes that are given is of no kind
abbrev pub sheet_modes : List ℕ → List Bool
sheet_modes numbers = modes_along numbers (first_record numbers) 0 (length numbers / 32 + 1)

-- the mode of a mode call, those of a sheet, and the two of a quad call
unfoldable pub modes_of : List ℕ → List Bool
modes_of case =
    cond (bytes_eq (name_of case) mode_name) (not (eqb (get_or (numbers_of case) 3 0) 6) ∷ [])
    (cond (bytes_eq (name_of case) sheet_name) (sheet_modes (numbers_of case)) (true ∷ true ∷ []))
