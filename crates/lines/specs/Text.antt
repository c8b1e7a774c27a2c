-- The lines that a sheet prints (document 01, "Chain and sheet"), as bytes, and what it is to write text into a lent buffer.
use Rattle.std.specs.Prelude.{ℕ, zero, suc, ◌+◌, ◌*◌, ◌/◌, ◌%◌, ◌^◌, ◌≤◌, cond, List, [], ◌∷◌, ◌++◌, ◌≡◌, length, get_or, take, drop, leb}
use Rattle.io.specs.Digits.{last_digits}
use Rattle.access.specs.declared.progress.Progress.{Progress}
use Rattle.access.specs.Of.{number_in}

-- the letters of the ops 1 to 5: r, w, b, g, d
abbrev pub letter_of : ℕ → ℕ
letter_of op = get_or (63 ∷ 114 ∷ 119 ∷ 98 ∷ 103 ∷ 100 ∷ []) op 63

-- the line of one entry: its first word is op * 65,536 + place; place in 4 and value in 8 lower-case hexadecimal digits
unfoldable pub entry_line : ℕ → ℕ → List ℕ
entry_line w v = letter_of (w / 65536) ∷ 32 ∷ last_digits 16 4 (w % 65536) ++ (32 ∷ last_digits 16 8 v ++ (10 ∷ []))

-- the lines of a log's words, two to an entry
abbrev pub entry_lines : List ℕ → List ℕ
entry_lines [] = []
entry_lines (w ∷ []) = []
entry_lines (w ∷ v ∷ ws) = entry_line w v ++ entry_lines ws

-- how many decimal digits a number below 10 ^ (k + 1) takes, at least one
abbrev pub places : ℕ → ℕ → ℕ
places zero n = 1
places (suc k) n = cond (leb (10 ^ suc k) n) (suc (suc k)) (places k n)

-- a number below 10 ^ 20 in decimal, after a blank
unfoldable pub number : ℕ → List ℕ
number n = 32 ∷ last_digits 10 (places 19 n) n

-- how a run ended: its number and its four counts
pub record Ending : Type 0 where
  pub number : ℕ
  pub entries : ℕ
  pub taken : ℕ
  pub polls : ℕ
  pub longest : ℕ

abbrev pub ending_of : Progress → Ending
ending_of p =
    record {
      number = number_in p;
      entries = p.entries;
      taken = p.taken;
      polls = p.tally.polls;
      longest = p.tally.longest;
    }

-- the last line: `end`, number, entries, answers, polls, longest
unfoldable pub end_line : Ending → List ℕ
end_line e =
    (101 ∷ 110 ∷ 100 ∷ [])
    ++ (number e.number
    ++ (number e.entries
    ++ (number e.taken
    ++ (number e.polls
    ++ (number e.longest
    ++ (10 ∷ []))))))

-- all that is printed of a log and how its run ended
abbrev pub printed : List ℕ → Ending → List ℕ
printed log e = entry_lines (take (2 * e.entries) log) ++ end_line e

-- the list d with x written at `at`
abbrev pub written : List ℕ → ℕ → List ℕ → List ℕ
written d at x = take at d ++ (x ++ drop (at + length x) d)

-- d with x written at `at` is d', and the next place is `at'`
pub record Wrote (d : List ℕ) (at : ℕ) (d' : List ℕ) (at' : ℕ) (x : List ℕ) : Type 0 where
  pub text : d' ≡ written d at x
  pub place : at' ≡ at + length x
  pub room : at + length x ≤ length d
