-- A field of a word by mask and shift, for every place and width.
use mathlib.Core.Path.{◌≡◌, refl, ap, ap₂, sym, ◌∙◌}
use Prim.Native.Nat.{ℕ, ◌+◌, ◌-◌, ◌*◌, ◌/◌, ◌%◌, ◌^◌, ◌<◌}
use native.Mathlib.Omega.{arith}
use native.Mathlib.Nat.{zero-mul, zero-add, mod-lt, mod-eq_of_lt, le-add_left, lt_of_lt_of_le}
use lib.Pow.{pow_pos, pow_mono, shr_lt, shl_lt, shl_exact, split, ones_lt, ones_split, mod-mod-pow}
use lib.Bits.{bit_and, bit_or, and_mask, mask_lt, and_block, or_block, or_zero_r, or_shifted_r}
use Rattle.model.specs.Field.{get_field, set_field}

-- A field is shifted out and masked.
pub shifted_out : (place width word : ℕ) → bit_and (word / 2 ^ place) (2 ^ width - 1) ≡ get_field place width word
unfolding get_field
shifted_out place width word = and_mask (word / 2 ^ place) width

-- What is shifted out has at most `width` bits.
pub shifted_out_fits : (place width word : ℕ) → bit_and (word / 2 ^ place) (2 ^ width - 1) < 2 ^ width
shifted_out_fits place width word = mask_lt (word / 2 ^ place) width

-- `above` bits lie over the field: the word has above + width + place bits
module _ (above width place : ℕ) where
  -- all ones but for the field: those above it and those below it
  keep_blocks : 2 ^ (above + (width + place)) - 1 - (2 ^ width - 1) * 2 ^ place
      ≡ (2 ^ above - 1) * 2 ^ (width + place) + (2 ^ place - 1)
  keep_blocks = omega (arith, ones_split above (width + place), ones_split width place)

  -- what lies below the field lies below its end
  below : (x : ℕ) → x < 2 ^ place → x < 2 ^ (width + place)
  below x h = lt_of_lt_of_le h (pow_mono (le-add_left place width))

  -- the field masked away
  masked : (word : ℕ) → word < 2 ^ (above + (width + place))
      → bit_and word (2 ^ (above + (width + place)) - 1 - (2 ^ width - 1) * 2 ^ place)
      ≡ word / 2 ^ (width + place) * 2 ^ (width + place) + word % 2 ^ place
  masked word h =
      ap₂ bit_and (sym (split word (width + place))) keep_blocks
      ∙ and_block (width + place) (word / 2 ^ (width + place)) (2 ^ above - 1) (word % 2 ^ (width + place))
      (2 ^ place - 1)
      (mod-lt word (pow_pos (width + place))) (below _ (ones_lt place))
      ∙ rw (and_mask _ above, and_mask, mod-eq_of_lt (shr_lt above (width + place) h), mod-mod-pow) refl

  -- the new value, masked and shifted, as a number of two blocks
  placed : (value : ℕ) → bit_and value (2 ^ width - 1) * 2 ^ place % 2 ^ (above + (width + place))
      ≡ 0 * 2 ^ (width + place) + value % 2 ^ width * 2 ^ place
  placed value =
      rw (and_mask, zero-mul, zero-add)
      (shl_exact width place (above + (width + place)) (mod-lt value (pow_pos width)) (le-add_left _ above))

  -- A field is masked away, and the new value shifted in.
  pub shifted_in : (word value : ℕ) → word < 2 ^ (above + (width + place))
      → bit_or (bit_and word (2 ^ (above + (width + place)) - 1 - (2 ^ width - 1) * 2 ^ place))
      (bit_and value (2 ^ width - 1) * 2 ^ place % 2 ^ (above + (width + place)))
      ≡ set_field place width value word
  unfolding set_field
  shifted_in word value h =
      let low = mod-lt word (pow_pos place) in
      ap₂ bit_or (masked word h) (placed value)
      ∙ or_block (width + place) (word / 2 ^ (width + place)) 0 (word % 2 ^ place) (value % 2 ^ width * 2 ^ place)
      (below _ low) (shl_lt width place (mod-lt value (pow_pos width)))
      ∙ omega (
        arith,
        ap (◌* 2 ^ (width + place)) (or_zero_r (word / 2 ^ (width + place))),
        or_shifted_r (value % 2 ^ width) place (word % 2 ^ place) low,
      )

  -- The new value as the code casts it.
  pub cast_in : (word : ℕ) {cast value : ℕ} → cast ≡ value → word < 2 ^ (above + (width + place))
      → bit_or (bit_and word (2 ^ (above + (width + place)) - 1 - (2 ^ width - 1) * 2 ^ place))
      (bit_and cast (2 ^ width - 1) * 2 ^ place % 2 ^ (above + (width + place)))
      ≡ set_field place width value word
  cast_in word {value = value} e h = rw e (shifted_in word value h)
