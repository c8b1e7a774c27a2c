-- The answer of a call that is refused, and that of the oracle where the Rust has none (tests/oracle/README.md says
-- what an answer is).
use Rattle.std.specs.Prelude.{ℕ, ◌-◌, Bool, false, not, cond, ◌&&◌, ◌||◌, List, [], ◌∷◌, ◌++◌, length, take, drop}
use Rattle.std.specs.Prelude.{◌==◌, nat_eq, nat_le, bytes_eq, codes}
use Rattle.std.specs.List.{starts_with, position_or_len, before_first, list_any, slice_split}
use Rattle.std.specs.Option.{option_map_or}
use Rattle.cases.specs.Number.{number_of}
use Rattle.config.specs.Error.{error_number, touches_nothing}
use Rattle.config.specs.declared.error.QspiError.TheVariants.{Divider}

-- "refused"
abbrev pub refused_word : List ℕ
refused_word = 114 ∷ 101 ∷ 102 ∷ 117 ∷ 115 ∷ 101 ∷ 100 ∷ []

-- "none"
abbrev pub none_word : List ℕ
none_word = 110 ∷ 111 ∷ 110 ∷ 101 ∷ []

-- "panic "
abbrev pub panic_word : List ℕ
panic_word = 112 ∷ 97 ∷ 110 ∷ 105 ∷ 99 ∷ 32 ∷ []

-- "end "
abbrev pub end_word : List ℕ
end_word = 101 ∷ 110 ∷ 100 ∷ 32 ∷ []

-- " 0 0 0 0"
abbrev pub zeros : List ℕ
zeros = 32 ∷ 48 ∷ 32 ∷ 48 ∷ 32 ∷ 48 ∷ 32 ∷ 48 ∷ []

-- "sck 12 0" and a line end
abbrev pub no_sck : List ℕ
no_sck = 115 ∷ 99 ∷ 107 ∷ 32 ∷ 49 ∷ 50 ∷ 32 ∷ 48 ∷ 10 ∷ []

-- a line end, "rate 0" and a line end
abbrev pub no_rate : List ℕ
no_rate = 10 ∷ 114 ∷ 97 ∷ 116 ∷ 101 ∷ 32 ∷ 48 ∷ 10 ∷ []

-- a line that only the oracle has: "refused", "none", or "panic " and what follows
unfoldable pub oracles_own : List ℕ → Bool
oracles_own line = bytes_eq line refused_word || (bytes_eq line none_word || starts_with nat_eq line panic_word)

abbrev pub is_line_end : ℕ → Bool
is_line_end b = b == 10

-- the first line, without its line end
abbrev pub line_of : List ℕ → List ℕ
line_of text = before_first is_line_end text

-- what stands from the end of the first line on
abbrev pub rest_of : List ℕ → List ℕ
rest_of text = drop (position_or_len is_line_end text) text

-- one of the lines is the oracle's own
unfoldable pub has_own : List ℕ → Bool
has_own text = list_any oracles_own (slice_split is_line_end text)

-- the numbers by which a call is refused: all that touch nothing but 12, the clock rate's alone
unfoldable pub refusing : ℕ → Bool
refusing n = touches_nothing n && not (n == error_number Divider)

-- the end line of a refused call: "end ", its number, and " 0 0 0 0"
unfoldable pub refused_end : List ℕ → Bool
refused_end line =
    nat_le 13 (length line)
    && (bytes_eq (take 4 line) end_word
    && (bytes_eq (drop (length line - 8) line) zeros
    && option_map_or refusing (number_of (take (length line - 12) (drop 4 line))) false))

-- "sck"
abbrev pub sck_name : List ℕ
sck_name = codes "sck"

-- "open"
abbrev pub open_name : List ℕ
open_name = codes "open"

-- what follows the end line of a refused call: for an opening that it has no rate
abbrev pub rest_due : List ℕ → List ℕ
rest_due name = cond (bytes_eq name open_name) no_rate (10 ∷ [])

-- the whole answer of an opening that is refused by the number of these digits
abbrev pub refused_opening : List ℕ → List ℕ
refused_opening digits = end_word ++ (digits ++ (zeros ++ no_rate))

-- the whole answer of a refused call of this name; of dividers that do not exist "sck 12 0"
unfoldable pub refused : List ℕ → List ℕ → Bool
refused name text =
    cond (bytes_eq name sck_name) (bytes_eq text no_sck)
    (refused_end (line_of text) && bytes_eq (rest_of text) (rest_due name))

-- may document 01 refuse a call of this name: release, clock choice and dummies refuse nothing
unfoldable pub refusable : List ℕ → Bool
refusable name =
    not (bytes_eq name (codes "free") || (bytes_eq name (codes "clock") || bytes_eq name (codes "dummy")))
