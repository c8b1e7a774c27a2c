-- What no divider gives.
use mathlib.Core.Path.{◌≡◌, refl}
use Rattle.std.specs.Prelude.{Option, Some, None}
use Prim.Native.Nat.{ℕ, ◌<◌}
use borrow.Author.Tests.{lt-ltb}
use Rattle.clock.specs.declared.DividerSelect.{DividerSelect}
use Rattle.clock_numbers.specs.Dividers.{rate_of}

-- a module divider above 31 is refused, whatever the divider
pub far_module : (pll m : ℕ) (f : Option DividerSelect) → 31 < m → rate_of pll m f ≡ record { number = 12; hz = 0 }
far_module pll m (Some d) h = rw (lt-ltb 31 m h) refl
far_module pll m None h = refl
