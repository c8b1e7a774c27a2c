-- Which openings ask for a PLL of which no module divider gives an eligible clock (document 02, request 13);
-- tests/oracle/README.md says what a case is.
use Rattle.std.specs.Prelude.{Bool, not, List, ℕ, get_or}
use Rattle.clock.specs.Clocked.{clocked}

-- the PLL in the line of an opening: instance and ten settings stand before it
abbrev pub opening_pll : List ℕ → ℕ
opening_pll numbers = get_or numbers 11 0

-- it has no clock
abbrev pub without_clock : List ℕ → Bool
without_clock numbers = not (clocked (opening_pll numbers))
