-- A text against a start and what follows it: it begins otherwise, or what follows in it decides.
use Rattle.std.proofs.Common.{◌≡◌, refl, sym, ap, ◌∙◌, ℕ, Bool, true, false, ◌&&◌, List, [], ◌∷◌, ◌++◌, length, take}
use Rattle.std.proofs.Common.{drop, nat_eq, bytes_eq}
use Rattle.std.proofs.Math.Bool.{and_assoc}

start_and_rest : (text start rest : List ℕ)
    → bytes_eq text (start ++ rest)
    ≡ (bytes_eq (take (length start) text) start && bytes_eq (drop (length start) text) rest)
start_and_rest text [] rest = refl
start_and_rest [] (y ∷ start) rest = refl
start_and_rest (x ∷ text) (y ∷ start) rest =
    ap (λ (b : Bool). nat_eq x y && b) (start_and_rest text start rest) ∙ sym (and_assoc (nat_eq x y) _ _)

module _ (text start rest : List ℕ) where
  pub begins_otherwise : bytes_eq (take (length start) text) start ≡ false → bytes_eq text (start ++ rest) ≡ false
  begins_otherwise e = rw (start_and_rest text start rest, e)

  pub begins_so : (on : List ℕ) → bytes_eq (take (length start) text) start ≡ true → on ≡ drop (length start) text
      → bytes_eq text (start ++ rest) ≡ bytes_eq on rest
  begins_so on e o = rw (start_and_rest text start rest, e, o)
