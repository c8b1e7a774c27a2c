-- The modes along a chain, record by record.
use Rattle.std.proofs.Common.{◌≡◌, refl, ap, ◌∙◌, List, ℕ, suc, ◌+◌, ◌-◌, ◌<◌, ◌≤◌, ◌++◌, [], arith}
use borrow.Author.Tests.{ne_eqb, eq-eqb}
use Rattle.leaves_qpi.specs.Modes.{record_word, record_modes, modes_along}

module _ (numbers : List ℕ) (on before n : ℕ) where
  one_left : before < n
      → modes_along numbers on before (n - before) ≡ modes_along numbers on before (suc (n - (before + 1)))
  one_left h = ap (modes_along numbers on before) (omega (arith, h))

  -- a record that the chain does not go on with
  pub passed : before < n → (on ≡ before + 1 → ⊥)
      → modes_along numbers on before (n - before) ≡ modes_along numbers on (before + 1) (n - (before + 1))
  unfolding modes_along
  passed h e = one_left h ∙ rw (ne_eqb _ _ e) refl

  -- and the one that it does
  pub met : before < n → on ≡ before + 1
      → modes_along numbers on before (n - before)
      ≡ record_modes numbers before
      ++ modes_along numbers (record_word numbers before 7) (before + 1) (n - (before + 1))
  unfolding modes_along
  met h e = one_left h ∙ rw (eq-eqb _ _ e) refl

-- none are left
pub behind : (numbers : List ℕ) (on before n : ℕ) → n ≤ before → modes_along numbers on before (n - before) ≡ []
unfolding modes_along
behind numbers on before n h = let none : n - before ≡ 0 = omega (arith, h) in rw none refl
