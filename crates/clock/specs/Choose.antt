-- What the choice is, from document 01, "Clock".
use Rattle.std.specs.Prelude.{◌⊎◌, ◌≡◌, ℕ, ◌+◌, ◌-◌, ◌≤◌}
use Rattle.clock.specs.declared.Choice.{Choice}
use Rattle.clock.specs.declared.DividerSelect.TheVariants.{Cdr1}
use Rattle.clock.specs.Candidate.{candidate, rate, Eligible}

abbrev pub apart : ℕ → ℕ → ℕ
apart a b = (a - b) + (b - a)

-- how far the rate of candidate i is from the target
abbrev pub distance : ℕ → ℕ → ℕ → ℕ
distance pll target i = apart (rate pll i) target

-- candidate i is the choice: it is eligible; none is nearer to the target; among equally near ones it is not above the
-- target if any is not; and among those it is the first scanned
pub record IsChoice (pll target i : ℕ) : Type 0 where
  pub eligible : Eligible pll i
  pub nearest : (j : ℕ) → Eligible pll j → distance pll target i ≤ distance pll target j
  pub not_above_lem :
      (j : ℕ) →
      Eligible pll j →
      distance pll target j ≡ distance pll target i →
      rate pll j ≤ target →
      rate pll i ≤ target
  pub first :
      (j : ℕ) →
      Eligible pll j →
      distance pll target j ≡ distance pll target i →
      (rate pll i ≤ target → rate pll j ≤ target) →
      i ≤ j

-- m = 0, Cdr1 0
abbrev pub fallback : Choice
fallback = record { mod_div = 0; divider = Cdr1 0 }

abbrev pub NoneEligible : ℕ → Type 0
NoneEligible pll = (i : ℕ) → Eligible pll i → ⊥

-- c is what document 01 asks for: the candidate that is the choice, or the fallback where none is eligible
abbrev pub Chosen : ℕ → ℕ → Choice → Type 0
Chosen pll target c = ((i : ℕ) × IsChoice pll target i × (c ≡ candidate i)) ⊎ (NoneEligible pll × (c ≡ fallback))
