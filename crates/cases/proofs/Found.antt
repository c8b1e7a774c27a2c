-- The search for a byte, place by place.
use Rattle.std.proofs.Common.{◌≡◌, ℕ, suc, ◌+◌, ◌-◌, ◌<◌, ◌≤◌, Bool, true, false, not, cond, nat_lt, List, ◌∷◌, length}
use Rattle.std.proofs.Common.{get_or, Some, None, option_map, refl, ap, ◌∙◌, ◌==◌, arith, add-one, drop-cons}
use Rattle.std.proofs.Common.{eq-eqb, ne_eqb}
use Rattle.std.specs.List.{position_or_len}
use Rattle.std.proofs.lemmas.Bool.Decides.{nat_tests}
use Rattle.cases.specs.Find.{index_of, part_of}

-- A byte is found at the first place of a text, or one place further on than in the rest.
pub index_after : (x b : ℕ) (bs : List ℕ)
    → index_of x (b ∷ bs) ≡ cond (b == x) (Some 0) (option_map suc (index_of x bs))
index_after x b bs = by (b == x) (position_or_len (λ c. c == x) bs) (length bs)
  where
    by : (t : Bool) (k n : ℕ) → let j = cond (not t) (1 + k) 0 in
        cond (nat_lt j (suc n)) (Some j) None ≡ cond t (Some 0) (option_map suc (cond (nat_lt k n) (Some k) None))
    by true k n = grind (arith, nat_tests)
    by false k n = grind (arith, nat_tests)

module _ (x : ℕ) (text : List ℕ) (i to : ℕ) where
  -- the first byte of a part, and the rest
  pub part_next : i < to → to ≤ length text → part_of i to text ≡ get_or text i 0 ∷ part_of (i + 1) to text
  part_next h k =
      let left : to - i ≡ suc (to - (i + 1)) = omega arith in
      let inside : i < length text = omega arith in
      rw (left, drop-cons text i 0, add-one)

  -- the byte is the first of the part
  pub found_here : i < to → to ≤ length text → get_or text i 0 ≡ x → index_of x (part_of i to text) ≡ Some 0
  found_here h k e = ap (index_of x) (part_next h k) ∙ index_after x _ _ ∙ rw (eq-eqb _ _ e) refl

  -- it is not, and is looked for in the rest
  pub found_next : i < to → to ≤ length text → (get_or text i 0 ≡ x → ⊥)
      → index_of x (part_of i to text) ≡ option_map suc (index_of x (part_of (i + 1) to text))
  found_next h k e = ap (index_of x) (part_next h k) ∙ index_after x _ _ ∙ rw (ne_eqb _ _ e) refl

  -- nothing is found in an empty part
  pub found_none : to ≤ i → index_of x (part_of i to text) ≡ None
  found_none h = let none : to - i ≡ 0 = omega arith in rw none refl
