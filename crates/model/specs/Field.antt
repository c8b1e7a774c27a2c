-- A field of a word: `width` bits from bit `place` up (document 01, "Registers and fields").
use Rattle.std.specs.Prelude.{◌≡◌, ◌⊎◌, ℕ, ◌+◌, ◌*◌, ◌/◌, ◌%◌, ◌^◌, ◌≤◌}

-- the field's value
unfoldable pub get_field : ℕ → ℕ → ℕ → ℕ
get_field place width word = word / 2 ^ place % 2 ^ width

-- The word with the field changed: the bits above it, the value's low bits, the bits below it.
unfoldable pub set_field : ℕ → ℕ → ℕ → ℕ → ℕ
set_field place width value word =
    word / 2 ^ (width + place) * 2 ^ (width + place) + value % 2 ^ width * 2 ^ place + word % 2 ^ place

-- A field change puts the value's low bits in and keeps every field that does not meet it, one bit or many.
pub record FieldChange (place width value word : ℕ) : Type 0 where
  pub puts : get_field place width (set_field place width value word) ≡ value % 2 ^ width
  pub keeps : (place' width' : ℕ) → (width' + place' ≤ place) ⊎ (width + place ≤ place')
      → get_field place' width' (set_field place width value word) ≡ get_field place' width' word

-- For every place, width, value and word.
abbrev pub FieldChanges : Type 0
FieldChanges = (place width value word : ℕ) → FieldChange place width value word
