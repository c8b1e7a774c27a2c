-- The lowest rank below an index: what the scan of the candidates goes by, and what it may leave out.
use mathlib.Core.Bool.{true, false, cond}
use mathlib.Core.Path.{◌≡◌, ◌∙◌, refl}
use Prim.Native.Nat.{ℕ, zero, suc, ◌+◌, ◌-◌, ◌*◌, ◌/◌, ◌%◌, ◌≤◌, ◌<◌, min}
use borrow.Author.Tests.{le-leb, lt-leb}
use native.Mathlib.Decide.{dec_lt, dec_le}
use native.Mathlib.Nat.{add-suc, le_trans, le-div_iff_mul-le, mul-le-mul_left, div-mul-le_self}
use native.Mathlib.Numerals.{add-one}
use native.Mathlib.Omega.{arith}
use Rattle.clock.specs.Candidate.{module_clock, in_range, factor_at}
use Rattle.clock.specs.Skip.{kind_end, next_place}
use Rattle.clock.specs.Rank.{cost, far, rank_by, lowest_by, rank, lowest}
use Rattle.clock.proofs.Places.{kind_ends}
use Rattle.clock.proofs.Factors.{factor_pos, factor_rises}

div_falls : (n : ℕ) {a b : ℕ} → 0 < a → a ≤ b → n / b ≤ n / a
div_falls n {a} {b} p h =
    (le-div_iff_mul-le {k = a} {x = n / b} {y = n} p).1 (le_trans (mul-le-mul_left (n / b) h) (div-mul-le_self n b))

cost_rises : {r s t : ℕ} → s ≤ r → r ≤ t → cost r t ≤ cost s t
cost_rises l h = omega arith

digits_rise : {a b i j : ℕ} → a ≤ b → i ≤ j → a * 8_704 + i ≤ b * 8_704 + j
digits_rise l h = omega arith

module _ (pll target : ℕ) where
  -- the rank at a place of a module divider
  rank_at :
      (m place i : ℕ) →
      place < 272 →
      i ≡ m * 272 + place →
      rank pll target i
      ≡ cond (in_range (module_clock pll m)) (cost (module_clock pll m / factor_at place) target) far * 8_704 + i
  unfolding rank_by
  rank_at m place i h e =
      let q : i / 272 ≡ m = omega arith in
      let r : i % 272 ≡ place = omega arith in
      rw (q, r)

  pub lowest_most : (n : ℕ) → lowest pll target n ≤ far * 8_704
  unfolding lowest_by
  lowest_most zero = omega arith
  lowest_most (suc n) = omega (arith, lowest_most n)

  -- candidates of no lower rank may be left out
  stays :
      (n k : ℕ) →
      n ≤ k →
      ((i : ℕ) → n ≤ i → i < k → lowest pll target n ≤ rank pll target i) →
      lowest pll target n ≡ lowest pll target k
  unfolding lowest_by
  stays n zero l h = let e : n ≡ 0 = omega arith in rw e
  stays n (suc k) l h =
      elim (dec_le n k) [
        | yes l' ↦ omega (arith, stays n k l' (λ i a b. h i a (omega arith)), h k l' (omega arith))
        | no g ↦ let e : n ≡ suc k = omega arith in rw e
      ]

  -- a rank below 8,704 is the index of a rate that is the target
  hit_below : (n : ℕ) → lowest pll target n < 8_704 → lowest pll target n < n
  unfolding lowest_by rank_by
  hit_below zero h = omega arith
  hit_below (suc n) h =
      elim (dec_lt (lowest pll target n) 8_704) [ yes l ↦ omega (arith, hit_below n l) | no g ↦ omega arith ]

  -- so after it all may be left out
  pub settled : (n k : ℕ) {best : ℕ} → n ≤ k → best ≡ lowest pll target n → best < 8_704 → best ≡ lowest pll target k
  unfolding rank_by
  settled n k l b h = b ∙ stays n k l (λ i a c. omega (arith, hit_below n (rw b at h)))

  -- and so may the places of a module clock that is not eligible
  pub module_passed :
      (m : ℕ) {best : ℕ} →
      in_range (module_clock pll m) ≡ false →
      best ≡ lowest pll target (m * 272) →
      best ≡ lowest pll target ((m + 1) * 272)
  module_passed m e b = b ∙ stays (m * 272) ((m + 1) * 272) (omega arith) higher
    where
      higher : (i : ℕ) → m * 272 ≤ i → i < (m + 1) * 272 → lowest pll target (m * 272) ≤ rank pll target i
      higher i a c =
          rw (rank_at m (i - m * 272) i (omega arith) (omega arith), e) (omega (arith, lowest_most (m * 272)))

  -- one more place of an eligible module clock, as the scan goes: its factor, its rank, the lesser of the two
  pub place_more :
      (m place : ℕ) {best divisor ranked r : ℕ} →
      place < 272 →
      in_range (module_clock pll m) ≡ true →
      best ≡ lowest pll target (m * 272 + place) →
      divisor ≡ factor_at place →
      ranked ≡ cost (module_clock pll m / divisor) target * 8_704 + (m * 272 + place) →
      r ≡ min best ranked →
      r ≡ lowest pll target (m * 272 + (place + 1))
  unfolding lowest_by
  place_more m place h e b d k l = rw (add-one, add-suc, rank_at m place (m * 272 + place) h refl, e, ← d, ← k, ← b) l

  place_least : (m place : ℕ) → lowest pll target (m * 272 + (place + 1)) ≤ rank pll target (m * 272 + place)
  unfolding lowest_by
  place_least m place = rw (add-one, add-suc) (omega arith)

  -- after it, the next place to look at
  pub kind_passed :
      (m place : ℕ) {best divisor next : ℕ} →
      place < 272 →
      in_range (module_clock pll m) ≡ true →
      best ≡ lowest pll target (m * 272 + (place + 1)) →
      divisor ≡ factor_at place →
      next ≡ next_place place (module_clock pll m / divisor) target →
      best ≡ lowest pll target (m * 272 + next)
  unfolding next_place
  kind_passed m place h e b d n =
      elim (dec_le (module_clock pll m / factor_at place) target) [
        | yes l ↦ rw (n, d, le-leb _ _ l) (b ∙ stays _ _ (omega (arith, kind_ends place h)) (higher l))
        | no g ↦ rw (n, d, lt-leb (module_clock pll m / factor_at place) target (omega arith)) b
      ]
    where
      higher :
          module_clock pll m / factor_at place ≤ target →
          (i : ℕ) →
          m * 272 + (place + 1) ≤ i →
          i < m * 272 + kind_end place →
          lowest pll target (m * 272 + (place + 1)) ≤ rank pll target i
      higher l i a c =
          let rises = factor_rises place (i - m * 272) h (omega arith) (omega arith) in
          let falls = div_falls (module_clock pll m) (factor_pos place h) rises in
          let here = rank_at m place (m * 272 + place) h refl in
          let there = rank_at m (i - m * 272) i (omega (arith, kind_ends place h)) (omega arith) in
          le_trans (place_least m place) (rw (here, there, e) (digits_rise (cost_rises falls l) (omega arith)))

  -- all places of a module clock passed
  pub module_scanned :
      (m : ℕ) {place best : ℕ} →
      place ≡ 272 →
      best ≡ lowest pll target (m * 272 + place) →
      best ≡ lowest pll target ((m + 1) * 272)
  module_scanned m e b =
      let next : m * 272 + 272 ≡ (m + 1) * 272 = omega arith in
      rw (e, next) at b
