-- Which PLL rates have an eligible module clock, and what rate is then chosen (document 02, request 13).
use Rattle.std.specs.Prelude.{◌≡◌, ◌↔◌, ◌⊎◌, Bool, true, false, ℕ, ◌^◌, ◌≤◌, ◌<◌}
use Rattle.std.specs.List.{list_any, range_with_len}
use Rattle.clock.specs.Candidate.{module_clock, in_range, rate}
use Rattle.clock.specs.Choose.{NoneEligible}
use Rattle.clock.specs.Rank.{chosen, choice}
use Rattle.clock.specs.Answer.{sck}
use Rattle.clock.specs.Dummies.{clamped}

-- some module divider, 0 to 31, gives an eligible clock
unfoldable pub clocked : ℕ → Bool
clocked pll = list_any (λ m. in_range (module_clock pll m)) (range_with_len 0 32)

-- Where none does, no candidate is eligible, and the other way round.
abbrev pub NoClockNoCandidate : Type 0
NoClockNoCandidate = (pll : ℕ) → (clocked pll ≡ false) ↔ NoneEligible pll

-- None does exactly at a PLL of 0, and from 3,200,000,032 on.
abbrev pub NoClockExactly : Type 0
NoClockExactly = (pll : ℕ) → (clocked pll ≡ false) ↔ ((pll ≡ 0) ⊎ (3_200_000_032 ≤ pll))

-- a rate from 1 to 100,000,000 Hz
pub record BusRate (hz : ℕ) : Type 0 where
  pub least : 1 ≤ hz
  pub most : hz ≤ 100_000_000

-- Where some does, the choice for each target from 1 Hz on has such a rate.
abbrev pub ChoiceRate : Type 0
ChoiceRate =
    (pll target : ℕ) → clocked pll ≡ true → 1 ≤ target → target < 2 ^ 32 → BusRate (rate pll (chosen pll target))

-- So has that of an opening, whatever target it clamps; its dividers are answered with that rate.
abbrev pub OpeningRate : Type 0
OpeningRate =
    (pll target : ℕ) → clocked pll ≡ true
    → let c = choice pll (clamped target) in BusRate (sck pll c.mod_div c.divider).hz

-- Both PLLs next to those without a clock have one, and both ends of the range are the rate of an opening.
pub record ClockMet : Type 0 where
  pub first : clocked 1 ≡ true
  pub last : clocked 3_200_000_031 ≡ true
  pub least : rate 1 (chosen 1 (clamped 0)) ≡ 1
  pub most : rate 100_000_000 (chosen 100_000_000 (clamped 4_294_967_295)) ≡ 100_000_000
