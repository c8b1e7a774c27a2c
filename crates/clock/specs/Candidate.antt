-- The clock candidates of document 01, "Clock", by their scan index: 32 module dividers, and within each 272 places.
use Rattle.std.specs.Prelude.{Bool, cond, ◌&&◌, ℕ, ◌+◌, ◌-◌, ◌/◌, ◌%◌, ◌<◌, ◌≤◌, ltb, leb, get_or}
use Rattle.clock.specs.declared.DividerSelect.{DividerSelect}
use Rattle.clock.specs.declared.DividerSelect.TheVariants.{Cdr1, Cdr2}
use Rattle.clock.specs.declared.Choice.{Choice}
use Rattle.clock.specs.Factors.{factors}

-- 272 places within a module divider: Cdr1 0 to 15, then Cdr2 0 to 255
abbrev pub divider_at : ℕ → DividerSelect
divider_at place = cond (ltb place 16) (Cdr1 place) (Cdr2 (place - 16))

abbrev pub place_of : DividerSelect → ℕ
place_of (Cdr1 c) = c
place_of (Cdr2 c) = 16 + c

-- one division factor a place: that of the table (document 02, request 6)
unfoldable pub factor_at : ℕ → ℕ
factor_at place = get_or factors place 0

-- what a divider divides the module clock by
abbrev pub factor_of : DividerSelect → ℕ
factor_of d = factor_at (place_of d)

abbrev pub candidate : ℕ → Choice
candidate i = record { mod_div = i / 272; divider = divider_at (i % 272) }

abbrev pub module_clock : ℕ → ℕ → ℕ
module_clock pll m = pll / (m + 1)

-- a module clock from 1 to 100,000,000 Hz
abbrev pub in_range : ℕ → Bool
in_range clock = leb 1 clock && leb clock 100_000_000

-- the rate of candidate i, where `factor` gives the factor at a place
abbrev pub rate_by : (ℕ → ℕ) → ℕ → ℕ → ℕ
rate_by factor pll i = module_clock pll (i / 272) / factor (i % 272)

abbrev pub rate : ℕ → ℕ → ℕ
rate = rate_by factor_at

pub record Eligible (pll i : ℕ) : Type 0 where
  pub scanned : i < 8_704
  pub least : 1 ≤ module_clock pll (i / 272)
  pub most : module_clock pll (i / 272) ≤ 100_000_000
