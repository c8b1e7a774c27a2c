-- The clock's dividers, in numbers.
use Rattle.std.specs.Prelude.{cond, ◌≡◌, ℕ, eqb, ltb, Option, Some, None, Result, Ok, Err}
use Rattle.config.specs.declared.error.QspiError.{QspiError}
use Rattle.config.specs.Error.{error_number}
use Rattle.clock.specs.declared.DividerSelect.{DividerSelect}
use Rattle.clock.specs.declared.DividerSelect.TheVariants.{Cdr1, Cdr2}
use Rattle.clock.specs.Answer.{Answer, sck}

-- 1 for Cdr1, 2 for Cdr2
abbrev pub kind_of : DividerSelect → ℕ
kind_of (Cdr1 c) = 1
kind_of (Cdr2 c) = 2

abbrev pub count_of : DividerSelect → ℕ
count_of (Cdr1 c) = c
count_of (Cdr2 c) = c

-- the divider of a kind and a count up to 255
abbrev pub divider_of : ℕ → ℕ → Option DividerSelect
divider_of kind count =
    cond (ltb 255 count) None (cond (eqb kind 1) (Some (Cdr1 count)) (cond (eqb kind 2) (Some (Cdr2 count)) None))

-- what is no divider is refused as 12, with rate 0
abbrev pub rate_of : ℕ → ℕ → Option DividerSelect → Answer
rate_of pll m (Some d) = sck pll m d
rate_of pll m None = record { number = 12; hz = 0 }

abbrev pub sck_of : ℕ → ℕ → ℕ → ℕ → Answer
sck_of pll m kind count = rate_of pll m (divider_of kind count)

-- the number and the rate of each case
abbrev pub answer_of : Result ℕ QspiError → Answer
answer_of (Ok hz) = record { number = 0; hz = hz }
answer_of (Err error) = record { number = error_number error; hz = 0 }

pub record Answered (a : Answer) (number rate : ℕ) : Type 0 where
  pub numbered : number ≡ a.number
  pub rated : rate ≡ a.hz
