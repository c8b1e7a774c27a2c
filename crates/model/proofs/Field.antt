-- A field change puts the value in and keeps every other field, for every place and width.
use mathlib.Core.Path.{◌≡◌}
use mathlib.Core.Logic.{◌⊎◌, inl, inr}
use Prim.Native.Nat.{ℕ, ◌+◌, ◌-◌, ◌*◌, ◌/◌, ◌%◌, ◌^◌, ◌≤◌}
use native.Mathlib.Nat.{mod-lt, sub-add_cancel, add-sub_of_le, add_assoc, add-mul, mul_assoc}
use lib.Arith.{digits_lt}
use lib.Pow.{pow_pos, pow-add, shr-shr, high, low, field, mod-mod-pow}
use Rattle.model.specs.Field.{get_field, set_field, FieldChanges}

-- Words alike in the bits below `place` are alike in every field there.
alike_below : (place place' width' x y : ℕ) → width' + place' ≤ place → x % 2 ^ place ≡ y % 2 ^ place
    → get_field place' width' x ≡ get_field place' width' y
unfolding get_field
alike_below place place' width' x y h e = cc (field x width' place', field y width' place', shorter x, shorter y)
  where
    shorter : (n : ℕ) → n % 2 ^ place % 2 ^ (width' + place') ≡ n % 2 ^ (width' + place')
    shorter n = rw (sub-add_cancel h) at (mod-mod-pow n (place - (width' + place')) (width' + place'))

-- Words alike in the bits from `place` up are alike in every field there.
alike_above : (place place' width' x y : ℕ) → place ≤ place' → x / 2 ^ place ≡ y / 2 ^ place
    → get_field place' width' x ≡ get_field place' width' y
unfolding get_field
alike_above place place' width' x y h e = cc (further x, further y)
  where
    further : (n : ℕ) → n / 2 ^ place / 2 ^ (place' - place) ≡ n / 2 ^ place'
    further n = rw (add-sub_of_le h) at (shr-shr n place (place' - place))

module _ (place width value word : ℕ) where
  -- the changed word is the field with what lies above it, and then the bits below
  regrouped : set_field place width value word ≡ (word / 2 ^ (width + place) * 2 ^ width + value % 2 ^ width) * 2 ^ place + word % 2 ^ place
  unfolding set_field
  regrouped = simp (pow-add, add-mul, mul_assoc)

  kept_below : set_field place width value word % 2 ^ place ≡ word % 2 ^ place
  kept_below = rw regrouped (low _ place (mod-lt word (pow_pos place)))

  kept_above : set_field place width value word / 2 ^ (width + place) ≡ word / 2 ^ (width + place)
  unfolding set_field
  kept_above =
      rw add_assoc
      (high _ (width + place) (rw pow-add (digits_lt (mod-lt value (pow_pos width)) (mod-lt word (pow_pos place)))))

  put : get_field place width (set_field place width value word) ≡ value % 2 ^ width
  unfolding get_field
  put = rw (regrouped, high _ place (mod-lt word (pow_pos place))) (low _ width (mod-lt value (pow_pos width)))

  kept : (place' width' : ℕ) → (width' + place' ≤ place) ⊎ (width + place ≤ place')
      → get_field place' width' (set_field place width value word) ≡ get_field place' width' word
  kept place' width' (inl h) = alike_below place place' width' _ _ h kept_below
  kept place' width' (inr h) = alike_above (width + place) place' width' _ _ h kept_above

pub field_changes : FieldChanges
field_changes place width value word = record { puts = put place width value word; keeps = kept place width value word }
