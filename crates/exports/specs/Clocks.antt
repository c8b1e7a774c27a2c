-- What the choice of a clock gives, in numbers.
use Rattle.std.specs.Prelude.{◌≡◌, ℕ}
use Rattle.clock.specs.declared.Choice.{Choice}
use Rattle.clock_numbers.specs.Dividers.{kind_of, count_of}

pub record Selected (c : Choice) (m kind count : ℕ) : Type 0 where
  pub module_divider : m ≡ c.mod_div
  pub divider_kind : kind ≡ kind_of c.divider
  pub divider_count : count ≡ count_of c.divider
