-- The candidates by index are those of document 01 in scan order, each with its rate; the PLL rates where none is
-- eligible.
use mathlib.Core.Bool.{Bool, true, false}
use mathlib.Core.Path.{◌≡◌, refl, ap}
use Prim.Native.Nat.{ℕ, ◌+◌, ◌*◌, ◌/◌, ◌%◌, ◌≤◌, ◌<◌}
use lib.Arith.{digits_div, digits_mod}
use lib.Dec.{ltb}
use Rattle.std.specs.Prelude.{Option, Some, None}
use borrow.Author.Tests.{le-ltb, ltb-true}
use native.Mathlib.Nat.{le-div_iff_mul-le, zero-div}
use native.Mathlib.Omega.{arith}
use Rattle.clock.specs.declared.DividerSelect.TheVariants.{Cdr1, Cdr2}
use Rattle.clock.specs.Answer.{Answer, answer, too_large, sck}
use Rattle.clock.specs.Candidate.{divider_at, candidate, rate}
use Rattle.clock.specs.Choose.{NoneEligible}
use Rattle.clock.specs.Laws.{NoClock, BeyondAnyClock, HypothesesMet}
use Rattle.clock.proofs.Chosen.{none_eligible}
use Rattle.clock.proofs.Places.{cdr1_at, cdr2_at, place_again}

pub cdr1_candidate : (m c : ℕ) → c ≤ 15 → candidate (m * 272 + c) ≡ record { mod_div = m; divider = Cdr1 c }
cdr1_candidate m c h =
    let inside : c < 272 = omega arith in
    rw (digits_div m inside, digits_mod m inside, cdr1_at c h)

pub cdr2_candidate : (m c : ℕ) → c ≤ 255 → candidate (m * 272 + (16 + c)) ≡ record { mod_div = m; divider = Cdr2 c }
cdr2_candidate m c h =
    let inside : 16 + c < 272 = omega arith in
    rw (digits_div m inside, digits_mod m inside, cdr2_at c)

-- no place has a divider that is refused
divider_fits : (place : ℕ) → too_large (divider_at place) ≡ false
divider_fits place = go (ltb place 16) refl
  where
    go : (b : Bool) → ltb place 16 ≡ b → too_large (divider_at place) ≡ false
    go true e = rw e (le-ltb 15 place (omega (arith, ltb-true place 16 e)))
    go false e = rw e

-- each candidate is answered 0, with its rate
pub candidate_rate :
    (pll i : ℕ) → i < 8_704 → sck pll (i / 272) (divider_at (i % 272)) ≡ record { number = 0; hz = rate pll i }
candidate_rate pll i h = rw (le-ltb 31 (i / 272) (omega arith), divider_fits (i % 272), place_again (i % 272))

-- number and rate leave nothing open of an answer
pub answer_determines : (a b : Option ℕ) → answer a ≡ answer b → a ≡ b
answer_determines (Some x) (Some y) e = ap Some (ap (λ (r : Answer). r.hz) e)
answer_determines (Some x) None e = let n = ap (λ (r : Answer). r.number) e in absurd (omega arith)
answer_determines None (Some y) e = let n = ap (λ (r : Answer). r.number) e in absurd (omega arith)
answer_determines None None e = refl

-- from 3,200,000,032 Hz on, and at 0 Hz, no module clock is eligible
pub none_beyond : (pll : ℕ) → 3_200_000_032 ≤ pll → NoneEligible pll
none_beyond pll h i e =
    let least = le-div_iff_mul-le {k = i / 272 + 1} {x = 100_000_001} {y = pll} (omega arith) in
    let fast = least.1 (omega (arith, e.scanned)) in
    omega (arith, e.most)

pub beyond_any_clock : BeyondAnyClock
beyond_any_clock pll target h p t = none_eligible pll target p t (none_beyond pll h)

pub none_at_zero : NoneEligible 0
none_at_zero i e = let slow = rw zero-div at e.least in omega arith

pub no_clock : NoClock
no_clock target t = none_eligible 0 target (omega arith) t none_at_zero

pub hypotheses_met : HypothesesMet
hypotheses_met =
    record { eligible = record { scanned = omega arith; least = omega arith; most = omega arith }; none = none_at_zero }
