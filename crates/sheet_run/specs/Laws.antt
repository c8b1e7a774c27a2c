-- Demand 3 for sheets as byte strings, and what a sheet never gives.
use Rattle.std.specs.Prelude.{◌≡◌, Ok, Err, List, [], ◌∷◌, ◌++◌, ℕ, ◌+◌, ◌*◌, ◌^◌, ◌≤◌, ◌<◌, length}
use Rattle.model.specs.State.{begun, with_number}
use Rattle.model.specs.Ends.{Met}
use Rattle.model.specs.Called.{Untouched}
use Rattle.model.specs.Limit.{Ended, AgainCall}
use Rattle.sheet.specs.Words.{spell, Below}
use Rattle.config.specs.declared.error.QspiError.TheVariants.{Window}
use Rattle.records.specs.Check.{fault, number_of}
use Rattle.chain.specs.Laws.{quad_words, quad_answers}
use Rattle.sheet.specs.Sheet.{Sheet, Parsed, sheet, parse, continued_bytes}
use Rattle.sheet_run.specs.Run.{sheet_fault, sheet_outcome, sheet_state, state_with}
use Rattle.sheet_run.specs.Print.{end_state, printed_sheet}

-- another limit word, from 1 up, and words to insert after the answers, with which the bytes are still at most 65,536
pub record Continued (l : ℕ) (xs bs : List ℕ) : Type 0 where
  pub bytes : Below 256 bs
  pub some : 0 < l
  pub word : l < 2 ^ 32
  pub words : Below (2 ^ 32) xs
  pub fits : length bs + 4 * length xs ≤ 65536

-- A sheet that ended in 0 or 2 does so again exactly if the limit is above its longest, and is then alike in number,
-- counts, log and memory.
abbrev pub SheetAgain : Type 0
SheetAgain =
    (l : ℕ) (xs bs : List ℕ) → Continued l xs bs → (log : List ℕ) → Ended (sheet_outcome (parse bs) log).number
    → AgainCall l (sheet_outcome (parse bs) log) (sheet_outcome (parse (continued_bytes l xs bs)) log)

-- Then the printed lines are the same.
abbrev pub LinesAgain : Type 0
LinesAgain =
    (l : ℕ) (xs bs : List ℕ) → Continued l xs bs → Ended (end_state bs).number → (end_state bs).tally.longest < l
    → printed_sheet (continued_bytes l xs bs) ≡ printed_sheet bs

-- the number of what the check finds, or 0
abbrev pub sheet_refusal : Parsed → ℕ
sheet_refusal p = number_of (sheet_fault p)

-- A refusal touches neither log nor bytes, and all counts are 0.
abbrev pub SheetRefused : Type 0
SheetRefused =
    (bs log : List ℕ) → (sheet_refusal (parse bs) ≡ 0 → ⊥)
    → sheet_state bs log ≡ with_number (sheet_refusal (parse bs)) (begun log bs)

-- By its number: a sheet that ends in a number that no steps end in has touched neither.
abbrev pub SheetUntouched : Type 0
SheetUntouched = (bs log : List ℕ) → (Met (sheet_state bs log).number → ⊥) → Untouched log bs (sheet_state bs log)

-- With its own answers in place of its own it is the sheet's run.
abbrev pub OwnAnswers : Type 0
OwnAnswers = (s : Sheet) (bs log : List ℕ) → parse bs ≡ sheet s → state_with s.answers bs log ≡ sheet_state bs log

-- 6 is never given: no phase of a sheet is so long.
abbrev pub SheetNever6 : Type 0
SheetNever6 = (bs log : List ℕ) → (sheet_state bs log).number ≡ 6 → ⊥

-- Nor is 14: half the nanoseconds always fit (request 2).
abbrev pub SheetNever14 : Type 0
SheetNever14 = (bs log : List ℕ) → Below 256 bs → (sheet_state bs log).number ≡ 14 → ⊥

-- a sheet of one flush whose first poll is unready, at limit 2
abbrev pub flush_bytes : List ℕ
flush_bytes = spell (2 ∷ 0 ∷ 0 ∷ 1 ∷ 2 ∷ 6 ∷ 0 ∷ 0 ∷ 0 ∷ 0 ∷ 0 ∷ 0 ∷ 0 ∷ 0x80000000 ∷ 0 ∷ [])

-- the chain of a quad write, a quad read and a mode that the chip lacks, as a sheet
abbrev pub quad_bytes : List ℕ
quad_bytes = spell (2 ∷ 100_000_000 ∷ 0 ∷ 3 ∷ 46 ∷ []) ++ (spell quad_words ++ (spell quad_answers ++ (0x9f ∷ 0 ∷ [])))

-- the flush, as it is read
abbrev pub flush_sheet : Sheet
flush_sheet =
    record {
      limit = 2;
      rate = 0;
      qpi = 0;
      records = 6 ∷ 0 ∷ 0 ∷ 0 ∷ 0 ∷ 0 ∷ 0 ∷ 0 ∷ [];
      answers = 0x80000000 ∷ 0 ∷ [];
      memory = [];
    }

-- a delay, then a read of one byte of no memory
abbrev pub faulty_bytes : List ℕ
faulty_bytes = spell (1 ∷ 0 ∷ 0 ∷ 2 ∷ 0 ∷ 5 ∷ 0 ∷ 0 ∷ 0 ∷ 0 ∷ 0 ∷ 0 ∷ 2 ∷ 2 ∷ 0 ∷ 1 ∷ 0 ∷ 0 ∷ 0 ∷ 0 ∷ 0 ∷ [])

-- What the laws ask for can be had: the flush, which ends in 0, with a limit above its longest and an answer more, and
-- with one that is not above it; the quad records, which end in 2; bytes that are refused, a sheet in which the check
-- finds nothing, and one whose second record is at fault.
pub record HypothesesMet : Type 0 where
  pub ended : Ended (end_state flush_bytes).number
  pub continued : Continued 5 (7 ∷ []) flush_bytes
  pub above : (end_state flush_bytes).tally.longest < 5
  pub lower : Continued 1 [] flush_bytes
  pub not_above : 1 ≤ (end_state flush_bytes).tally.longest
  pub quads : Continued 5 [] quad_bytes
  pub unsupported : (end_state quad_bytes).number ≡ 2
  pub refused : sheet_refusal (parse []) ≡ 0 → ⊥
  pub not_met : Met (end_state []).number → ⊥
  pub passed : sheet_fault (parse flush_bytes) ≡ Ok tt
  pub faulty : sheet_fault (parse faulty_bytes) ≡ Err (fault Window 2)
  pub read : parse flush_bytes ≡ sheet flush_sheet
