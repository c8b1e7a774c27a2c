-- When the numbers from a count on are a list that ends them.
use Rattle.std.proofs.Common.{◌≡◌, refl, ℕ, ◌-◌, ◌≤◌, true, false, eqb, ltb, List, [], ◌∷◌, ◌++◌, length, get_or, arith}
use Rattle.std.proofs.Common.{length-append, eq-eqb, ne_eqb, lt-ltb, Result, Ok, Err, is_ok, IsErr}
use Rattle.replay.specs.Fields.{ends_with_list}

pub not_ok : {A E : Type 0} (r : Result A E) → IsErr r → is_ok r ≡ false
not_ok (Ok x) h = cc
not_ok (Err e) h = refl

pub ends_short : (f : List ℕ) → length f ≤ get_or f 0 0 → ends_with_list f 0 ≡ false
unfolding ends_with_list
ends_short [] h = refl
ends_short (n ∷ f) h =
    let some : ltb 0 (length (n ∷ f)) ≡ true = lt-ltb _ _ (omega arith) in
    let count : eqb n (length (n ∷ f) - 0 - 1) ≡ false = ne_eqb _ _ (λ e. omega arith) in
    rw (some, count)

module _ (f l r : List ℕ) (e : f ≡ length l ∷ l ++ r) where
  some : ltb 0 (length (length l ∷ l ++ r)) ≡ true
  some = lt-ltb _ _ (omega arith)

  pub ends_with : length r ≡ 0 → ends_with_list f 0 ≡ true
  unfolding ends_with_list
  ends_with h =
      let count : eqb (length l) (length (length l ∷ l ++ r) - 0 - 1) ≡ true
      = eq-eqb _ _ (omega (arith, length-append l r)) in
      rw (e, some, count)

  pub ends_before : (length r ≡ 0 → ⊥) → ends_with_list f 0 ≡ false
  unfolding ends_with_list
  ends_before h =
      let count : eqb (length l) (length (length l ∷ l ++ r) - 0 - 1) ≡ false
      = ne_eqb _ _ (λ q. h (omega (arith, length-append l r))) in
      rw (e, some, count)
