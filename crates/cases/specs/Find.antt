-- The first place of a byte in a text, and the first word of a line.
use Rattle.std.specs.Prelude.{List, ℕ, ◌-◌, take, drop, ◌==◌, Option}
use Rattle.std.specs.List.{position, before_first}

-- the place of the first such byte, if there is one
abbrev pub index_of : ℕ → List ℕ → Option ℕ
index_of x text = position (λ b. b == x) text

-- the bytes from one place on and before another
abbrev pub part_of : ℕ → ℕ → List ℕ → List ℕ
part_of from to text = take (to - from) (drop from text)

-- what stands before the first blank, or all where there is none
abbrev pub name_of : List ℕ → List ℕ
name_of line = before_first (λ b. b == 32) line
