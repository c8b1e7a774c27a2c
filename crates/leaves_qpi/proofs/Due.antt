-- The answer that is due against the library's, byte by byte.
use Rattle.std.proofs.Common.{◌≡◌, refl, sym, ap, ◌∙◌, ℕ, zero, suc, ◌+◌, Bool, true, false, List, [], ◌∷◌, length}
use Rattle.std.proofs.Common.{get_or, drop, map, bytes_eq, nat_eq, drop-drop}
use Rattle.std.specs.List.{list_all, range_with_len}
use Rattle.std.proofs.lemmas.Slice.Eq.{bytes_eq-Decides}

here : (whole : List ℕ) (k y : ℕ) (ys : List ℕ) → drop k whole ≡ y ∷ ys → get_or whole k 0 ≡ y
here [] zero y ys e = cc
here [] (suc k) y ys e = cc
here (x ∷ xs) zero y ys e = cc
here (x ∷ xs) (suc k) y ys e = here xs k y ys e

module _ (due : ℕ → ℕ) (whole : List ℕ) where
  -- from a place on
  pub by_place : (k : ℕ) (ys : List ℕ) → drop k whole ≡ ys
      → list_all (λ i. nat_eq (due i) (get_or whole i 0)) (range_with_len k (length ys))
      ≡ bytes_eq (map due (range_with_len k (length ys))) ys
  by_place k [] e = refl
  by_place k (y ∷ ys) e =
      let next : drop (k + 1) whole ≡ ys = sym (drop-drop 1 k whole) ∙ ap (drop 1) e in
      rw (here whole k y ys e, by_place (k + 1) ys next) refl

-- texts of different lengths are not equal
pub other_length : (xs ys : List ℕ) → (length xs ≡ length ys → ⊥) → bytes_eq xs ys ≡ false
other_length xs ys n = by (bytes_eq xs ys) (λ e. n (ap length ((bytes_eq-Decides xs ys).0 e)))
  where
    by : (b : Bool) → (b ≡ true → ⊥) → b ≡ false
    by true n = absurd (n refl)
    by false n = refl
