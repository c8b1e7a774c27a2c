-- The choice as a number that computes: the candidate of the lowest rank. It goes by what gives the factor at a place:
-- by the table in the contracts, and by the two formulas where Formulas says that both choose alike.
use Rattle.std.specs.Prelude.{cond, ℕ, zero, suc, ◌+◌, ◌-◌, ◌*◌, ◌/◌, ◌%◌, ◌^◌, min}
use Rattle.clock.specs.declared.Choice.{Choice}
use Rattle.clock.specs.Candidate.{factor_at, candidate, module_clock, in_range, rate_by}
use Rattle.clock.specs.Choose.{apart}

-- a rate's cost: twice its distance, and 1 more above the target
abbrev pub cost : ℕ → ℕ → ℕ
cost hz target = 2 * apart hz target + min 1 (hz - target)

-- the cost of a candidate that is not eligible, above that of any 32-bit rate
abbrev pub far : ℕ
far = 2 ^ 33

-- lower is better: by cost, and at one cost by the scan index
unfoldable pub rank_by : (ℕ → ℕ) → ℕ → ℕ → ℕ → ℕ
rank_by factor pll target i =
    cond (in_range (module_clock pll (i / 272))) (cost (rate_by factor pll i) target) far * 8_704 + i

-- the lowest rank below index n. It starts from that of candidate 0 as not eligible, so that m = 0, Cdr1 0 is chosen
-- where none is
unfoldable pub lowest_by : (ℕ → ℕ) → ℕ → ℕ → ℕ → ℕ
lowest_by factor pll target zero = far * 8_704
lowest_by factor pll target (suc n) = min (lowest_by factor pll target n) (rank_by factor pll target n)

unfoldable pub chosen_by : (ℕ → ℕ) → ℕ → ℕ → ℕ
chosen_by factor pll target = lowest_by factor pll target 8_704 % 8_704

abbrev pub choice_by : (ℕ → ℕ) → ℕ → ℕ → Choice
choice_by factor pll target = candidate (chosen_by factor pll target)

-- by the table
abbrev pub rank : ℕ → ℕ → ℕ → ℕ
rank = rank_by factor_at

abbrev pub lowest : ℕ → ℕ → ℕ → ℕ
lowest = lowest_by factor_at

abbrev pub chosen : ℕ → ℕ → ℕ
chosen = chosen_by factor_at

-- document 01's choice: that it is what `Chosen` asks for is `ChoiceRight`
abbrev pub choice : ℕ → ℕ → Choice
choice = choice_by factor_at
