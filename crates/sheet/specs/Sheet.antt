-- A sheet and its bytes (document 01, "Chain and sheet"): little-endian words limit, rate, QPI, record count, answer count; the records,
-- eight words each; the answers; the rest is memory.
use Rattle.std.specs.Prelude.{ℕ, ◌+◌, ◌*◌, ◌/◌, ◌≤◌, ◌<◌, ◌^◌, Bool, true, false, ◌&&◌, List, [], ◌∷◌, ◌++◌, ◌≡◌, length, take, drop, leb}
use Rattle.sheet.specs.Words.{word_at, words, bytes_of, spell, Below}

-- document 01's *sheet*, once read; `records` are the words of its records
pub record Sheet : Type 0 where
  pub limit : ℕ
  pub rate : ℕ
  pub qpi : ℕ
  pub records : List ℕ
  pub answers : List ℕ
  pub memory : List ℕ

-- what bytes are: refused (13), or a sheet
pub data Parsed : Type 0 where
  refused : Parsed
  sheet : Sheet → Parsed

-- where the answers start, and the memory, for n records and a answers
abbrev pub answers_from : ℕ → ℕ
answers_from n = 20 + 32 * n

abbrev pub memory_from : ℕ → ℕ → ℕ
memory_from n a = 20 + 32 * n + 4 * a

-- the counts that the header gives
abbrev pub record_count : List ℕ → ℕ
record_count bs = word_at bs 12

abbrev pub answer_count : List ℕ → ℕ
answer_count bs = word_at bs 16

-- at most 65,536 bytes, no fewer than the header takes and no fewer than its counts ask, and a QPI word of 0 or 1
abbrev pub accepted : List ℕ → Bool
accepted bs =
    leb (length bs) 65536
    && (leb 20 (length bs) && (leb (memory_from (record_count bs) (answer_count bs)) (length bs) && leb (word_at bs 8) 1))

-- the sheet that accepted bytes spell
abbrev pub sheet_of : List ℕ → Sheet
sheet_of bs =
    record {
      limit = word_at bs 0;
      rate = word_at bs 4;
      qpi = word_at bs 8;
      records = words (8 * record_count bs) (drop 20 bs);
      answers = words (answer_count bs) (drop (answers_from (record_count bs)) bs);
      memory = drop (memory_from (record_count bs) (answer_count bs)) bs;
    }

abbrev pub judged : Bool → Sheet → Parsed
judged true s = sheet s
judged false s = refused

unfoldable pub parse : List ℕ → Parsed
parse bs = judged (accepted bs) (sheet_of bs)

-- the five words in front
abbrev pub header : Sheet → List ℕ
header s = s.limit ∷ s.rate ∷ s.qpi ∷ length s.records / 8 ∷ length s.answers ∷ []

unfoldable pub encode : Sheet → List ℕ
encode s = spell (header s) ++ (spell s.records ++ (spell s.answers ++ s.memory))

-- a sheet that can be spelled
pub record WellFormed (s : Sheet) : Type 0 where
  pub limit : s.limit < 2 ^ 32
  pub rate : s.rate < 2 ^ 32
  pub qpi : s.qpi ≤ 1
  pub records : Below (2 ^ 32) s.records
  pub answers : Below (2 ^ 32) s.answers
  pub memory : Below 256 s.memory
  pub eight : length s.records ≡ 8 * (length s.records / 8)
  pub fits : 20 + 4 * length s.records + 4 * length s.answers + length s.memory ≤ 65536

-- the sheet with another limit, and more answers after its own
abbrev pub continued : ℕ → List ℕ → Sheet → Sheet
continued l xs s =
    record {
      limit = l;
      rate = s.rate;
      qpi = s.qpi;
      records = s.records;
      answers = s.answers ++ xs;
      memory = s.memory;
    }

-- the same on bytes: the limit word replaced, the answer count raised, the words xs inserted after the answers
unfoldable pub continued_bytes : ℕ → List ℕ → List ℕ → List ℕ
continued_bytes l xs bs =
    bytes_of l
    ++ (take 12 (drop 4 bs)
    ++ (bytes_of (answer_count bs + length xs)
    ++ (take (32 * record_count bs + 4 * answer_count bs) (drop 20 bs)
    ++ (spell xs
    ++ drop (memory_from (record_count bs) (answer_count bs)) bs))))
