-- What opening a sheet's bytes gives the code: the header, or a refusal.
use Rattle.std.specs.Prelude.{ℕ, Bool, true, false, List, Option, Some, None, eqb}
use Rattle.sheet.specs.Words.{word_at}
use Rattle.sheet.specs.Sheet.{accepted, record_count, answer_count, memory_from}
use Rattle.sheet.specs.declared.Header.{Header}

abbrev pub header_of : List ℕ → Header
header_of bs =
    record {
      limit = word_at bs 0;
      rate = word_at bs 4;
      qpi = eqb (word_at bs 8) 1;
      records = record_count bs;
      answers = answer_count bs;
      memory = memory_from (record_count bs) (answer_count bs);
    }

abbrev pub answered : Bool → Header → Option Header
answered true h = Some h
answered false h = None

unfoldable pub opened : List ℕ → Option Header
opened bs = answered (accepted bs) (header_of bs)

-- the number of that: 13 for a refusal
abbrev pub number_of : Option Header → ℕ
number_of (Some h) = 0
number_of None = 13
