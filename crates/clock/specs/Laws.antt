-- What is proved of the choice, for every 32-bit PLL and target.
use Rattle.std.specs.Prelude.{◌≡◌, ℕ, ◌^◌, ◌≤◌, ◌<◌}
use Rattle.clock.specs.declared.Choice.{Choice}
use Rattle.clock.specs.Candidate.{rate, Eligible}
use Rattle.clock.specs.Choose.{distance, fallback, NoneEligible, Chosen}
use Rattle.clock.specs.Rank.{chosen, choice}

-- The choice that computes is what document 01 asks for, and nothing else is.
abbrev pub ChoiceRight : Type 0
ChoiceRight = (pll target : ℕ) → pll < 2 ^ 32 → target < 2 ^ 32 → Chosen pll target (choice pll target)

abbrev pub OnlyOne : Type 0
OnlyOne = (pll target : ℕ) (c d : Choice) → Chosen pll target c → Chosen pll target d → c ≡ d

-- No eligible candidate is nearer to the target than the chosen one.
abbrev pub Nearest : Type 0
Nearest =
    (pll target : ℕ) → pll < 2 ^ 32 → target < 2 ^ 32 → (j : ℕ) → Eligible pll j
    → distance pll target (chosen pll target) ≤ distance pll target j

-- Among equally near ones the chosen one is not above the target, if any is not.
abbrev pub NotAboveAmongEquals : Type 0
NotAboveAmongEquals =
    (pll target : ℕ) → pll < 2 ^ 32 → target < 2 ^ 32 → (j : ℕ) → Eligible pll j
    → distance pll target j ≡ distance pll target (chosen pll target) → rate pll j ≤ target
    → rate pll (chosen pll target) ≤ target

-- Among those it is the first scanned.
abbrev pub FirstAmongThose : Type 0
FirstAmongThose =
    (pll target : ℕ) → pll < 2 ^ 32 → target < 2 ^ 32 → (j : ℕ) → Eligible pll j
    → distance pll target j ≡ distance pll target (chosen pll target)
    → (rate pll (chosen pll target) ≤ target → rate pll j ≤ target) → chosen pll target ≤ j

-- Where none is eligible it is m = 0, Cdr1 0: for every target at a PLL of 0, and from 3,200,000,032 on (P5 has no
-- target in document 01).
abbrev pub NoneEligibleFallsBack : Type 0
NoneEligibleFallsBack =
    (pll target : ℕ) → pll < 2 ^ 32 → target < 2 ^ 32 → NoneEligible pll → choice pll target ≡ fallback

abbrev pub NoClock : Type 0
NoClock = (target : ℕ) → target < 2 ^ 32 → choice 0 target ≡ fallback

abbrev pub BeyondAnyClock : Type 0
BeyondAnyClock = (pll target : ℕ) → 3_200_000_032 ≤ pll → pll < 2 ^ 32 → target < 2 ^ 32 → choice pll target ≡ fallback

-- what the laws speak of: an eligible candidate, and a PLL with none
pub record HypothesesMet : Type 0 where
  pub eligible : Eligible 24_000_000 544
  pub none : NoneEligible 0
