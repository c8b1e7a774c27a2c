-- The claims at a sheet of one record, whose fields all differ, one answer and one byte of memory.
use Prim.Native.Nat.{ℕ}
use mathlib.Core.Path.{◌≡◌, refl}
use mathlib.Core.List.{List, [], ◌∷◌}
use native.Mathlib.Omega.{arith}
use Rattle.sheet.specs.Words.{Below}
use Rattle.sheet.specs.Sheet.{Sheet, sheet, parse, encode, WellFormed, continued, continued_bytes}
use Rattle.sheet.proofs.WordLaws.{below_by}
use Rattle.sheet.proofs.SheetLaws.{read_back, spelled_back, continues}

abbrev example : Sheet
example = record { limit = 3; rate = 10000000; qpi = 1; records = 1 ∷ 2 ∷ 3 ∷ 4 ∷ 5 ∷ 6 ∷ 7 ∷ 8 ∷ []; answers = 9 ∷ []; memory = 0x9f ∷ [] }

abbrev bytes : List ℕ
bytes =
    3 ∷ 0 ∷ 0 ∷ 0 ∷ 128 ∷ 150 ∷ 152 ∷ 0 ∷ 1 ∷ 0 ∷ 0 ∷ 0 ∷ 1 ∷ 0 ∷ 0 ∷ 0 ∷ 1 ∷ 0 ∷ 0 ∷ 0
    ∷ 1 ∷ 0 ∷ 0 ∷ 0 ∷ 2 ∷ 0 ∷ 0 ∷ 0 ∷ 3 ∷ 0 ∷ 0 ∷ 0 ∷ 4 ∷ 0 ∷ 0 ∷ 0 ∷ 5 ∷ 0 ∷ 0 ∷ 0 ∷ 6 ∷ 0 ∷ 0 ∷ 0 ∷ 7 ∷ 0 ∷ 0 ∷ 0 ∷ 8 ∷ 0 ∷ 0 ∷ 0
    ∷ 9 ∷ 0 ∷ 0 ∷ 0 ∷ 159 ∷ []

-- with limit 5 and the answers 7 and 80000000 hex inserted
abbrev longer : List ℕ
longer =
    5 ∷ 0 ∷ 0 ∷ 0 ∷ 128 ∷ 150 ∷ 152 ∷ 0 ∷ 1 ∷ 0 ∷ 0 ∷ 0 ∷ 1 ∷ 0 ∷ 0 ∷ 0 ∷ 3 ∷ 0 ∷ 0 ∷ 0
    ∷ 1 ∷ 0 ∷ 0 ∷ 0 ∷ 2 ∷ 0 ∷ 0 ∷ 0 ∷ 3 ∷ 0 ∷ 0 ∷ 0 ∷ 4 ∷ 0 ∷ 0 ∷ 0 ∷ 5 ∷ 0 ∷ 0 ∷ 0 ∷ 6 ∷ 0 ∷ 0 ∷ 0 ∷ 7 ∷ 0 ∷ 0 ∷ 0 ∷ 8 ∷ 0 ∷ 0 ∷ 0
    ∷ 9 ∷ 0 ∷ 0 ∷ 0 ∷ 7 ∷ 0 ∷ 0 ∷ 0 ∷ 0 ∷ 0 ∷ 0 ∷ 128 ∷ 159 ∷ []

are_bytes : Below 256 bytes
are_bytes = below_by 256 bytes refl

example_formed : WellFormed example
example_formed = omega arith

example_parsed : parse bytes ≡ sheet example
unfolding parse
example_parsed = refl

example_longer : continued_bytes 5 (7 ∷ 0x80000000 ∷ []) bytes ≡ longer
unfolding continued_bytes
example_longer = refl

pub shown_read_back : parse (encode example) ≡ sheet example
shown_read_back = read_back example example_formed

pub shown_spelled_back : encode example ≡ bytes
shown_spelled_back = spelled_back bytes example are_bytes example_parsed

pub shown_continues : parse longer ≡ sheet (continued 5 (7 ∷ 0x80000000 ∷ []) example)
shown_continues =
    rw (← example_longer)
    (continues 5 (7 ∷ 0x80000000 ∷ []) bytes example are_bytes example_parsed (omega arith) (omega arith) (omega arith))
