-- The table of factors by its rule, tested once as a whole; rates, choice and answers by it are those by the formulas.
use mathlib.Core.Bool.{or-true}
use mathlib.Core.Path.{◌≡◌, ◌∙◌, refl, ap}
use Prim.Native.Nat.{ℕ, zero, suc, ◌+◌, ◌%◌, ◌<◌, ◌≤◌}
use Rattle.std.specs.Prelude.{get_or}
use Rattle.std.proofs.lemmas.List.FromFn.{get_or-map-range_with_len}
use borrow.Author.Tests.{lt-ltb, le-ltb}
use native.Mathlib.Decide.{dec_lt}
use native.Mathlib.Omega.{arith}
use Rattle.clock.specs.declared.DividerSelect.TheVariants.{Cdr1, Cdr2}
use Rattle.clock.specs.Candidate.{factor_at, candidate}
use Rattle.clock.specs.Skip.{kind_end}
use Rattle.clock.specs.Rank.{rank_by, lowest_by, chosen_by}
use Rattle.clock.specs.Formulas.{formula_at, TableByRule, FactorsByRule, SameRates, SameChoice, SameAnswers}
use Rattle.clock.proofs.Places.{cdr1_at, cdr2_at, formula_rises, formula_pos, kind_ends}

-- the one test of the whole table
pub table_by_rule : TableByRule
unfolding formula_at
table_by_rule = refl

pub factors_by_rule : FactorsByRule
unfolding factor_at
factors_by_rule place h =
    ap (λ t. get_or t place 0) table_by_rule ∙ get_or-map-range_with_len formula_at 0 272 place place 0 h (omega arith)

-- within Cdr1, and within Cdr2, the factors rise
pub factor_rises : (place j : ℕ) → place < 272 → place ≤ j → j < kind_end place → factor_at place ≤ factor_at j
factor_rises place j p l h =
    rw (factors_by_rule place p, factors_by_rule j (omega (arith, kind_ends place p))) (formula_rises place j l h)

pub factor_pos : (place : ℕ) → place < 272 → 0 < factor_at place
factor_pos place h = rw (factors_by_rule place h) (formula_pos place)

-- the last of Cdr1 is the largest
pub factor_most : (place : ℕ) → place < 272 → factor_at place ≤ 32_768
unfolding factor_at
factor_most place h =
    elim (dec_lt place 16) [
      | yes c ↦ factor_rises place 15 h (omega arith) (rw (lt-ltb _ _ c) (omega arith))
      | no g ↦
          let last = factor_rises place 271 h (omega arith) (rw (le-ltb place 16 (omega arith)) (omega arith)) in
          omega (arith, last)
    ]

pub same_rates : SameRates
same_rates pll i = rw (factors_by_rule (i % 272) (omega arith))

module _ (pll target : ℕ) where
  same_rank : (i : ℕ) → rank_by factor_at pll target i ≡ rank_by formula_at pll target i
  unfolding rank_by
  same_rank i = rw (factors_by_rule (i % 272) (omega arith))

  same_lowest : (n : ℕ) → lowest_by factor_at pll target n ≡ lowest_by formula_at pll target n
  unfolding lowest_by
  same_lowest zero = refl
  same_lowest (suc n) = rw (same_lowest n, same_rank n)

pub same_choice : SameChoice
unfolding chosen_by
same_choice pll target = ap (λ n. candidate (n % 8_704)) (same_lowest pll target 8_704)

pub same_answers : SameAnswers
unfolding formula_at
same_answers pll m (Cdr1 c) h =
    elim (dec_lt 15 c) [
      | yes l ↦ rw (lt-ltb 15 c l, or-true)
      | no g ↦ rw (factors_by_rule c (omega arith), cdr1_at c (omega arith))
    ]
same_answers pll m (Cdr2 c) h = rw (factors_by_rule (16 + c) (omega arith), cdr2_at c)
