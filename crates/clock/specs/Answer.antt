-- What `actual_sck` answers: document 01's number and rate, of every divider.
use Rattle.std.specs.Prelude.{Bool, false, cond, ◌||◌, ℕ, ◌/◌, ltb, Option, Some, None}
use Rattle.clock.specs.declared.DividerSelect.{DividerSelect}
use Rattle.clock.specs.declared.DividerSelect.TheVariants.{Cdr1, Cdr2}
use Rattle.clock.specs.Candidate.{module_clock, factor_of}

pub record Answer : Type 0 where
  pub number : ℕ
  pub hz : ℕ

-- the number and the rate of each case: a rate, or no divider
abbrev pub answer : Option ℕ → Answer
answer (Some hz) = record { number = 0; hz = hz }
answer None = record { number = 12; hz = 0 }

-- Cdr1 above 15
abbrev pub too_large : DividerSelect → Bool
too_large (Cdr1 c) = ltb 15 c
too_large (Cdr2 c) = false

-- the answer, where `factor` gives what a divider divides the module clock by
abbrev pub sck_by : (DividerSelect → ℕ) → ℕ → ℕ → DividerSelect → Answer
sck_by factor pll m d =
    cond (ltb 31 m || too_large d)
    (record { number = 12; hz = 0 })
    (record { number = 0; hz = module_clock pll m / factor d })

abbrev pub sck : ℕ → ℕ → DividerSelect → Answer
sck = sck_by factor_of
