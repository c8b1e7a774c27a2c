-- The places of the scan: those of Cdr1 0 to 15, then those of Cdr2, how it goes on, what the formulas give at each.
use mathlib.Core.Path.{◌≡◌, ap}
use Prim.Native.Nat.{ℕ, ◌+◌, ◌-◌, ◌*◌, ◌^◌, ◌<◌, ◌≤◌}
use lib.Pow.{pow_pos, pow_mono}
use borrow.Author.Tests.{lt-ltb, le-ltb, le-leb, lt-leb}
use native.Mathlib.Decide.{dec_lt, dec_le}
use native.Mathlib.Nat.{add-sub_cancel_left}
use native.Mathlib.Omega.{arith}
use Rattle.clock.specs.declared.DividerSelect.{DividerSelect}
use Rattle.clock.specs.declared.DividerSelect.TheVariants.{Cdr1, Cdr2}
use Rattle.clock.specs.Candidate.{divider_at, place_of}
use Rattle.clock.specs.Formulas.{formula_of, formula_at}
use Rattle.clock.specs.Skip.{kind_end, next_place}

pub cdr1_at : (c : ℕ) → c ≤ 15 → divider_at c ≡ Cdr1 c
cdr1_at c h = simp (lt-ltb c 16 (omega arith))

pub cdr2_at : (c : ℕ) → divider_at (16 + c) ≡ Cdr2 c
cdr2_at c = simp (le-ltb (16 + c) 16 (omega arith), add-sub_cancel_left)

pub cdr1_formula : (c : ℕ) → c ≤ 15 → formula_at c ≡ 2 ^ c
unfolding formula_at
cdr1_formula c h = ap formula_of (cdr1_at c h)

pub cdr2_formula : (c : ℕ) → formula_at (16 + c) ≡ 2 * (c + 1)
unfolding formula_at
cdr2_formula c = ap formula_of (cdr2_at c)

cdr2_formula_at : (place : ℕ) → 16 ≤ place → formula_at place ≡ 2 * (place - 16 + 1)
unfolding formula_at
cdr2_formula_at place h = simp (le-ltb place 16 h)

-- within Cdr1, and within Cdr2, the formulas rise
pub formula_rises : (place j : ℕ) → place ≤ j → j < kind_end place → formula_at place ≤ formula_at j
formula_rises place j l h =
    elim (dec_lt place 16) [
      | yes c ↦
          let h' : j < 16 = rw (lt-ltb place 16 c) at h in
          rw (cdr1_formula place (omega arith), cdr1_formula j (omega arith)) (pow_mono l)
      | no g ↦ rw (cdr2_formula_at place (omega arith), cdr2_formula_at j (omega arith)) (omega arith)
    ]

pub kind_ends : (place : ℕ) → place < 272 → (place < kind_end place) × (kind_end place ≤ 272)
kind_ends place h =
    elim (dec_lt place 16) [
      | yes c ↦ rw (lt-ltb place 16 c) (omega arith)
      | no g ↦ rw (le-ltb place 16 (omega arith)) (omega arith)
    ]

-- the scan goes on, and not past the end
pub next_ahead :
    (place hz target : ℕ) → place < 272 → (place < next_place place hz target) × (next_place place hz target ≤ 272)
unfolding next_place
next_ahead place hz target h =
    elim (dec_le hz target) [
      | yes l ↦ rw (le-leb hz target l) (kind_ends place h)
      | no g ↦ rw (lt-leb hz target (omega arith)) (omega arith)
    ]

formula_of_pos : (d : DividerSelect) → 0 < formula_of d
formula_of_pos (Cdr1 c) = pow_pos c
formula_of_pos (Cdr2 c) = omega arith

pub formula_pos : (place : ℕ) → 0 < formula_at place
unfolding formula_at
formula_pos place = formula_of_pos (divider_at place)

-- each place is that of its divider
pub place_again : (place : ℕ) → place_of (divider_at place) ≡ place
place_again place =
    elim (dec_lt place 16) [
      | yes c ↦ rw (lt-ltb place 16 c)
      | no g ↦ rw (le-ltb place 16 (omega arith)) (omega arith)
    ]

-- bounds of the scan's numbers
pub less_left : {i j : ℕ} → i < j → j ≤ 272 → 272 - j < 272 - i
less_left l h = omega arith

pub within : {m place : ℕ} → m < 32 → place < 272 → m * 272 + (place + 1) ≤ 8_704
within a b = omega arith
