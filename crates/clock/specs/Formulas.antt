-- The two formulas of document 01, "Clock", that the table of factors stands for (document 02, request 6): the table is
-- what they give, so no rate, no choice and no answer moved with it.
use Rattle.std.specs.Prelude.{◌≡◌, ℕ, ◌+◌, ◌*◌, ◌^◌, ◌<◌, map}
use Rattle.std.specs.List.{range_with_len}
use Rattle.clock.specs.declared.DividerSelect.{DividerSelect}
use Rattle.clock.specs.declared.DividerSelect.TheVariants.{Cdr1, Cdr2}
use Rattle.clock.specs.Factors.{factors}
use Rattle.clock.specs.Candidate.{divider_at, factor_at, rate, rate_by}
use Rattle.clock.specs.Rank.{choice, choice_by}
use Rattle.clock.specs.Answer.{sck, sck_by}

abbrev pub formula_of : DividerSelect → ℕ
formula_of (Cdr1 c) = 2 ^ c
formula_of (Cdr2 c) = 2 * (c + 1)

unfoldable pub formula_at : ℕ → ℕ
formula_at place = formula_of (divider_at place)

-- The rule of the table as a whole: it is what the formulas give at the places 0 to 271, in this order.
abbrev pub TableByRule : Type 0
TableByRule = factors ≡ map formula_at (range_with_len 0 272)

-- So each factor is by the rule.
abbrev pub FactorsByRule : Type 0
FactorsByRule = (place : ℕ) → place < 272 → factor_at place ≡ formula_at place

-- The rate of each candidate is the formulas', for every PLL.
abbrev pub SameRates : Type 0
SameRates = (pll i : ℕ) → rate pll i ≡ rate_by formula_at pll i

-- The choice is the formulas', for every PLL and every target.
abbrev pub SameChoice : Type 0
SameChoice = (pll target : ℕ) → choice pll target ≡ choice_by formula_at pll target

abbrev pub count : DividerSelect → ℕ
count (Cdr1 c) = c
count (Cdr2 c) = c

-- Number and rate are the formulas', for every PLL, module divider and divider with a count of a byte.
abbrev pub SameAnswers : Type 0
SameAnswers = (pll m : ℕ) (d : DividerSelect) → count d < 256 → sck pll m d ≡ sck_by formula_of pll m d
