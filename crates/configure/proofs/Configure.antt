-- What the code's choices come to.
use mathlib.Core.Path.{◌≡◌, refl, sym, ap, fun_ext, ◌∙◌}
use mathlib.Core.Bool.{Bool, true, false, not, cond}
use Prim.Native.Nat.{ℕ, ◌+◌, ◌<◌, min}
use native.Mathlib.Omega.{arith}
use Rattle.model.specs.Field.{set_field}
use Rattle.model.specs.Steps.{Steps, then, change}
use Rattle.registers.specs.Setting.{phase_bits, polarity_bits}
use Rattle.config.specs.declared.spi.Mode.{Mode}
use Rattle.config.specs.declared.config.CsConfig.{CsConfig}
use Rattle.config.specs.declared.config.WorkMode.{WorkMode}
use Rattle.config.specs.declared.config.WorkMode.TheVariants.{Standard, ThreeWire, Dual, DualIO, Quad, QuadIO, Qpi}
use Rattle.clock.specs.declared.DividerSelect.{DividerSelect}
use Rattle.clock.specs.declared.DividerSelect.TheVariants.{Cdr1, Cdr2}
use Rattle.std.specs.Prelude.{Option, None, Some}
use Rattle.setups.specs.Of.{divided_by_1, divided_by_2, formatted, bus_set, dual_on, quad_on, qpi_on}
use Rattle.configure.specs.Steps.{clock_divider, transfer_format, bus_mode, configure_work_mode}
use Rattle.configure.specs.Of.{cs_ctrl_mode, bus_mode_in}
use Rattle.configure.proofs.Bits.{Below, bit_0, bit_1, bit_6, after, bit_8_first}

-- the format's bits below bit 8, and its bits 12 and 14 with what is changed before them
below : (mode : Mode) (b : ℕ)
    → Below (λ w. set_field 6 1 b (set_field 1 1 (polarity_bits mode.polarity)
    (set_field 0 1 (phase_bits mode.phase) w)))
below mode b = after (bit_6 b) (after (bit_1 (polarity_bits mode.polarity)) (bit_0 (phase_bits mode.phase)))

abbrev format : Bool → (ℕ → ℕ) → Steps
format lsb bits = change 0x008 (λ w. set_field 12 1 (cond lsb 1 0) (set_field 14 1 1 (bits w)))

-- The code sets bit 8 first.
pub formats : (mode : Mode) (cs : Option CsConfig) (lsb : Bool)
    → change 0x008 (formatted mode.phase mode.polarity (cs_ctrl_mode cs) lsb) ≡ transfer_format mode cs lsb
unfolding transfer_format
formats mode None lsb = ap (format lsb) (fun_ext (bit_8_first (below mode 1)))
formats mode (Some cs) lsb = ap (format lsb) (fun_ext (bit_8_first (below mode 0)))

-- what a divider makes of the word read
abbrev pub divided : DividerSelect → ℕ → ℕ
divided (Cdr1 c) = divided_by_1 c
divided (Cdr2 c) = divided_by_2 c

-- A divider's step is the change of its word.
pub divides : (d : DividerSelect) → change 0x024 (divided d) ≡ clock_divider d
unfolding clock_divider
divides (Cdr1 c) = refl
divides (Cdr2 c) = refl

-- the first change of a work mode
abbrev pub first : WorkMode → Bool → Steps
first Standard bits = change 0x040 (bus_set (bus_mode_in bits))
first ThreeWire bits = change 0x040 (bus_set (bus_mode_in bits))
first Dual bits = change 0x038 dual_on
first DualIO bits = change 0x038 dual_on
first Quad bits = change 0x038 quad_on
first QuadIO bits = change 0x038 quad_on
first Qpi bits = change 0x038 qpi_on

-- three-wire without bit mode
abbrev pub in_bytes : WorkMode → Bool → Bool
in_bytes Standard bits = false
in_bytes ThreeWire bits = not bits
in_bytes Dual bits = false
in_bytes DualIO bits = false
in_bytes Quad bits = false
in_bytes QuadIO bits = false
in_bytes Qpi bits = false

-- the steps of a work mode that is three-wire in bytes or not
abbrev pub steps : WorkMode → Bool → Bool → Steps
steps mode bits b = cond b (then (first mode bits) (change 0x008 (set_field 25 1 1))) (first mode bits)

-- The steps of every work mode are those.
pub two_ways : (mode : WorkMode) (bits : Bool) → configure_work_mode mode bits ≡ steps mode bits (in_bytes mode bits)
unfolding configure_work_mode bus_mode
two_ways Standard true = refl
two_ways Standard false = refl
two_ways ThreeWire true = refl
two_ways ThreeWire false = refl
two_ways Dual bits = refl
two_ways DualIO bits = refl
two_ways Quad bits = refl
two_ways QuadIO bits = refl
two_ways Qpi bits = refl

module _ (mode : WorkMode) (bits : Bool) {b : Bool} (e : b ≡ in_bytes mode bits) where
  -- Three-wire in bytes sets 008 bit 25 after its first change.
  pub in_bytes_lem : b ≡ true → configure_work_mode mode bits ≡ then (first mode bits) (change 0x008 (set_field 25 1 1))
  in_bytes_lem t = two_ways mode bits ∙ ap (steps mode bits) (sym e ∙ t)

  -- Every other work mode makes its first change alone.
  pub not_in_bytes : b ≡ false → configure_work_mode mode bits ≡ first mode bits
  not_in_bytes t = two_ways mode bits ∙ ap (steps mode bits) (sym e ∙ t)

-- the place of an instance up to 3
pub own_place : {instance place : ℕ} → place ≡ 0x1000 + min instance 3 → instance < 4 → 0x1000 + instance ≡ place
own_place e h = omega arith
