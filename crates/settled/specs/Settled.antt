-- The settled instances P1 to P12 of document 01, as rows of one table, and the one claim over the definitions.
use Rattle.std.specs.Prelude.{List, [], ◌∷◌, ◌++◌, map, ◌≡◌, ℕ, replicate}
use Rattle.clock.specs.declared.DividerSelect.{DividerSelect}
use Rattle.clock.specs.declared.DividerSelect.TheVariants.{Cdr1, Cdr2}
use Rattle.clock.specs.Answer.{sck}
use Rattle.clock.specs.Rank.{choice}
use Rattle.clock.specs.Dummies.{dummies}
use Rattle.bus.specs.Calls as calls
use Rattle.sheet.specs.Words.{spell}
use Rattle.sheet_run.specs.Print.{printed_sheet}

infix 10 ◌gives◌
-- PLL and target; rate, tclqv and margin; a flush's limit and answers; a sheet's bytes
pub data Question : Type 0 where
  clock : ℕ → ℕ → Question
  quad : ℕ → ℕ → ℕ → Question
  flush : ℕ → List ℕ → Question
  sheet : List ℕ → Question

-- module divider, divider and rate; bytes; number, entries, answers, polls and longest; the lines
pub data Outcome : Type 0 where
  clocked : ℕ → DividerSelect → ℕ → Outcome
  bytes : ℕ → Outcome
  ends : ℕ → ℕ → ℕ → ℕ → ℕ → Outcome
  prints : List ℕ → Outcome

pub data Row : Type 0 where
  ◌gives◌ : Question → Outcome → Row

-- what the definitions say
abbrev pub outcome : Question → Outcome
outcome (clock pll target) =
    let c = choice pll target in
    clocked c.mod_div c.divider (sck pll c.mod_div c.divider).hz
outcome (quad hz ns margin) = bytes (dummies hz ns margin)
outcome (flush limit answers) =
    let st = calls.outcome calls.Call.flush limit answers (replicate 16 0) [] in
    ends st.number st.entries st.taken st.tally.polls st.tally.longest
outcome (sheet bs) = prints (printed_sheet bs)

abbrev pub computed : Row → Outcome
computed (q gives o) = outcome q

abbrev pub written : Row → Outcome
written (q gives o) = o

-- document 01's sheet: limit 3, rate 10,000,000, no QPI, one record that writes the one byte of the memory, eight answers of 0
abbrev pub sample : List ℕ
sample =
    spell (3 ∷ 10_000_000 ∷ 0 ∷ 1 ∷ 8 ∷ []) ++ (spell (1 ∷ 0 ∷ 1 ∷ 0 ∷ 0 ∷ 0 ∷ 0 ∷ 0 ∷ []) ++ (spell (replicate 8 0) ++ (0x9f ∷ [])))

-- and what it prints
abbrev pub text : List ℕ
text =
    114 ∷ 32 ∷ 48 ∷ 48 ∷ 49 ∷ 56 ∷ 32 ∷ 48 ∷ 48 ∷ 48 ∷ 48 ∷ 48 ∷ 48 ∷ 48 ∷ 48 ∷ 10  -- r 0018 00000000
    ∷ 119 ∷ 32 ∷ 48 ∷ 48 ∷ 49 ∷ 56 ∷ 32 ∷ 56 ∷ 48 ∷ 48 ∷ 48 ∷ 56 ∷ 48 ∷ 48 ∷ 48 ∷ 10  -- w 0018 80008000
    ∷ 100 ∷ 32 ∷ 48 ∷ 48 ∷ 48 ∷ 48 ∷ 32 ∷ 48 ∷ 48 ∷ 48 ∷ 48 ∷ 48 ∷ 48 ∷ 48 ∷ 97 ∷ 10  -- d 0000 0000000a
    ∷ 114 ∷ 32 ∷ 48 ∷ 48 ∷ 51 ∷ 48 ∷ 32 ∷ 48 ∷ 48 ∷ 48 ∷ 48 ∷ 48 ∷ 48 ∷ 48 ∷ 48 ∷ 10  -- r 0030 00000000
    ∷ 119 ∷ 32 ∷ 48 ∷ 48 ∷ 51 ∷ 48 ∷ 32 ∷ 48 ∷ 48 ∷ 48 ∷ 48 ∷ 48 ∷ 48 ∷ 48 ∷ 49 ∷ 10  -- w 0030 00000001
    ∷ 114 ∷ 32 ∷ 48 ∷ 48 ∷ 51 ∷ 52 ∷ 32 ∷ 48 ∷ 48 ∷ 48 ∷ 48 ∷ 48 ∷ 48 ∷ 48 ∷ 48 ∷ 10  -- r 0034 00000000
    ∷ 119 ∷ 32 ∷ 48 ∷ 48 ∷ 51 ∷ 52 ∷ 32 ∷ 48 ∷ 48 ∷ 48 ∷ 48 ∷ 48 ∷ 48 ∷ 48 ∷ 49 ∷ 10  -- w 0034 00000001
    ∷ 114 ∷ 32 ∷ 48 ∷ 48 ∷ 51 ∷ 56 ∷ 32 ∷ 48 ∷ 48 ∷ 48 ∷ 48 ∷ 48 ∷ 48 ∷ 48 ∷ 48 ∷ 10  -- r 0038 00000000
    ∷ 119 ∷ 32 ∷ 48 ∷ 48 ∷ 51 ∷ 56 ∷ 32 ∷ 48 ∷ 48 ∷ 48 ∷ 48 ∷ 48 ∷ 48 ∷ 48 ∷ 49 ∷ 10  -- w 0038 00000001
    ∷ 114 ∷ 32 ∷ 48 ∷ 48 ∷ 48 ∷ 56 ∷ 32 ∷ 48 ∷ 48 ∷ 48 ∷ 48 ∷ 48 ∷ 48 ∷ 48 ∷ 48 ∷ 10  -- r 0008 00000000
    ∷ 119 ∷ 32 ∷ 48 ∷ 48 ∷ 48 ∷ 56 ∷ 32 ∷ 56 ∷ 48 ∷ 48 ∷ 48 ∷ 48 ∷ 48 ∷ 48 ∷ 48 ∷ 10  -- w 0008 80000000
    ∷ 114 ∷ 32 ∷ 48 ∷ 48 ∷ 49 ∷ 99 ∷ 32 ∷ 48 ∷ 48 ∷ 48 ∷ 48 ∷ 48 ∷ 48 ∷ 48 ∷ 48 ∷ 10  -- r 001c 00000000
    ∷ 98 ∷ 32 ∷ 48 ∷ 50 ∷ 48 ∷ 48 ∷ 32 ∷ 48 ∷ 48 ∷ 48 ∷ 48 ∷ 48 ∷ 48 ∷ 57 ∷ 102 ∷ 10  -- b 0200 0000009f
    ∷ 114 ∷ 32 ∷ 48 ∷ 48 ∷ 49 ∷ 99 ∷ 32 ∷ 48 ∷ 48 ∷ 48 ∷ 48 ∷ 48 ∷ 48 ∷ 48 ∷ 48 ∷ 10  -- r 001c 00000000
    ∷ 114 ∷ 32 ∷ 48 ∷ 48 ∷ 48 ∷ 56 ∷ 32 ∷ 48 ∷ 48 ∷ 48 ∷ 48 ∷ 48 ∷ 48 ∷ 48 ∷ 48 ∷ 10  -- r 0008 00000000
    ∷ 101 ∷ 110 ∷ 100 ∷ 32 ∷ 48 ∷ 32 ∷ 49 ∷ 53 ∷ 32 ∷ 56 ∷ 32 ∷ 51 ∷ 32 ∷ 48 ∷ 10  -- end 0 15 8 3 0
    ∷ []

-- START set: an unready poll of a flush
abbrev unready : ℕ
unready = 0x80000000

-- P5 has no target in document 01: 100,000,000 here, and clock's `beyond_any_clock` for every other
abbrev pub settled : List Row
settled =
    (clock 1_200_000_000 10_000_000 gives clocked 11 (Cdr2 4) 10_000_000)  -- P1
    ∷ (clock 24_000_000 10_000_000 gives clocked 2 (Cdr1 0) 8_000_000)  -- P2
    ∷ (clock 100_000_000 50_000_000 gives clocked 0 (Cdr1 1) 50_000_000)  -- P3
    ∷ (clock 3_200_000_031 100_000_000 gives clocked 31 (Cdr1 0) 100_000_000)  -- P4
    ∷ (clock 3_200_000_032 100_000_000 gives clocked 0 (Cdr1 0) 3_200_000_032)  -- P5
    ∷ (clock 0 10_000_000 gives clocked 0 (Cdr1 0) 0)  -- P6
    ∷ (quad 100_000_000 80 0 gives bytes 1)  -- P7
    ∷ (quad 100_000_000 81 0 gives bytes 2)  -- P8
    ∷ (quad 100_000_000 20_480 0 gives bytes 1)  -- P9
    ∷ (quad 100_000_000 20_480 3 gives bytes 3)  -- P9
    ∷ (quad 100_000_000 20_400 1 gives bytes 255)  -- P10
    ∷ (flush 3 (unready ∷ unready ∷ 0 ∷ []) gives ends 0 3 3 3 2)  -- P11
    ∷ (flush 3 (unready ∷ unready ∷ unready ∷ 0 ∷ []) gives ends 1 3 3 3 3)  -- P11
    ∷ (sheet sample gives prints text)  -- P12
    ∷ []

-- each row's outcome is what the definitions say
abbrev pub Settled : Type 0
Settled = map computed settled ≡ map written settled
