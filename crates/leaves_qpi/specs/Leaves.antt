-- The answer that is due where modes leave QPI: the oracle's, but for bit 31 of the words that they write to 038, which
-- is clear (document 02, request 1).
use Rattle.std.specs.Prelude.{Bool, false, cond, ◌&&◌, ◌||◌, List, ℕ, ◌-◌, ltb, nat_le, nat_eq, length, map, drop}
use Rattle.std.specs.Prelude.{get_or, count_by, bytes_eq, codes}
use Rattle.std.specs.List.{starts_with, range_with_len}
use Rattle.leaves_qpi.specs.Modes.{mode_name, sheet_name}

-- calls that run modes
unfoldable pub has_modes : List ℕ → Bool
has_modes name =
    bytes_eq name mode_name
    || (bytes_eq name (codes "quadread") || (bytes_eq name (codes "quadwrite") || bytes_eq name sheet_name))

-- At i begins a word that a mode writes to 038. Lines have sixteen bytes; two above a mode's is its last poll of 008,
-- two above a phase's its word for 034.
unfoldable pub mode_word : List ℕ → ℕ → Bool
mode_word text i =
    nat_le 39 i
    && (starts_with nat_eq (drop (i - 39) text) (codes "r 0008 ")
    && starts_with nat_eq (drop (i - 7) text) (codes "w 0038 "))

-- how many begin before i
abbrev pub modes_before : List ℕ → ℕ → ℕ
modes_before text i = count_by (mode_word text) (range_with_len 0 i)

-- a hexadecimal digit without its highest bit: 8 and 9, a to f
unfoldable pub halved : ℕ → ℕ
halved digit =
    cond (ltb digit 56) digit (cond (ltb digit 58) (digit - 8)
    (cond (ltb digit 97) digit (cond (ltb digit 103) (digit - 47) digit)))

-- the byte at i: of a mode that leaves QPI the word's first digit has not its highest bit
unfoldable pub due_byte : List Bool → List ℕ → ℕ → ℕ
due_byte modes text i =
    cond (mode_word text i && get_or modes (modes_before text i) false) (halved (get_or text i 0)) (get_or text i 0)

abbrev pub due : List Bool → List ℕ → List ℕ
due modes text = map (due_byte modes text) (range_with_len 0 (length text))
