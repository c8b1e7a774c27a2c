-- What is claimed of sheets as bytes. The proofs are in `proofs/SheetLaws.antt`, an instance of each in `proofs/Example.antt`.
use Rattle.std.specs.Prelude.{ℕ, ◌+◌, ◌*◌, ◌^◌, ◌≤◌, ◌<◌, List, ◌≡◌, length}
use Rattle.sheet.specs.Words.{Below}
use Rattle.sheet.specs.Sheet.{Sheet, sheet, parse, encode, WellFormed, continued, continued_bytes}

-- a sheet that can be spelled is read back from its bytes
abbrev pub ReadBack : Type 0
ReadBack = (s : Sheet) → WellFormed s → parse (encode s) ≡ sheet s

-- accepted bytes are the bytes of the sheet that they are read as
abbrev pub SpelledBack : Type 0
SpelledBack = (bs : List ℕ) (s : Sheet) → Below 256 bs → parse bs ≡ sheet s → encode s ≡ bs

-- with any limit word, and words inserted after the answers and counted, within 65,536 bytes, the bytes are read as the same sheet with
-- that limit and those answers after its own
abbrev pub Continues : Type 0
Continues =
    (l : ℕ) (xs bs : List ℕ) (s : Sheet)
    → Below 256 bs
    → parse bs ≡ sheet s
    → l < 2 ^ 32
    → Below (2 ^ 32) xs
    → length bs + 4 * length xs ≤ 65536
    → parse (continued_bytes l xs bs) ≡ sheet (continued l xs s)
