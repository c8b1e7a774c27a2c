-- The next of the answers, and the place after it.
use Rattle.std.specs.Prelude.{List, ℕ, ◌+◌, slice_get, Option, Some, None}

-- the answer at a place; none where none is left
abbrev pub taken_at : List ℕ → ℕ → Option ℕ
taken_at ws at = slice_get ws at

-- the place after what was taken; the same where nothing was
abbrev pub place_after : Option ℕ → ℕ → ℕ
place_after (Some word) at = at + 1
place_after None at = at
