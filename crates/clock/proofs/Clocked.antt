-- Which PLL rates have an eligible module clock. No candidate of 0 Hz is then the choice: its module clock, halved
-- until it is not above the target, is nearer.
use mathlib.Core.Bool.{Bool, true, false, and-eq-true_iff, true≢false}
use mathlib.Core.Logic.{◌⊎◌, inl, inr, ⊎_elim}
use mathlib.Core.Path.{◌≡◌, ◌∙◌, refl, sym}
use Prim.Native.Nat.{ℕ, zero, suc, ◌+◌, ◌*◌, ◌/◌, ◌%◌, ◌^◌, ◌≤◌, ◌<◌}
use lib.Arith.{digits_div, digits_mod}
use lib.Pow.{shr-shr}
use borrow.Author.Tests.{le-leb, leb-true}
use Rattle.std.specs.Prelude.{get_or}
use Rattle.std.specs.List.{range_with_len}
use Rattle.std.proofs.lemmas.List.Folds.{Any-from_list_any, list_any_at}
use Rattle.std.proofs.lemmas.List.FromFn.{get_or-range_with_len, length-range_with_len}
use native.Mathlib.Decide.{dec_lt, dec_le}
use native.Mathlib.Nat.{le_trans, div-le_self, div-one, div-lt_iff_lt-mul}
use native.Mathlib.Numerals.{add-one}
use native.Mathlib.Omega.{arith}
use Rattle.clock.specs.Candidate.{module_clock, in_range, factor_at, rate, Eligible}
use Rattle.clock.specs.Choose.{IsChoice}
use Rattle.clock.specs.Rank.{rank_by, lowest_by, chosen_by, chosen}
use Rattle.clock.specs.Clocked.{clocked, NoClockNoCandidate, NoClockExactly, ChoiceRate, OpeningRate, ClockMet}
use Rattle.clock.specs.Dummies.{clamped}
use Rattle.clock.proofs.Places.{cdr1_formula}
use Rattle.clock.proofs.Factors.{factors_by_rule, factor_pos, factor_most}
use Rattle.clock.proofs.Chosen.{chosen_is}
use Rattle.clock.proofs.Scan.{none_at_zero, none_beyond, candidate_rate}

abbrev Found : ℕ → Type 0
Found pll = (m : ℕ) × (m < 32) × (in_range (module_clock pll m) ≡ true)

module _ (pll : ℕ) where
  eligible_clock : ℕ → Bool
  eligible_clock m = in_range (module_clock pll m)

  -- one of the 32 is eligible where the test says so, and the other way round
  found : clocked pll ≡ true → Found pll
  unfolding clocked eligible_clock
  found e =
      let (i, m, l, at_i, hit) = Any-from_list_any eligible_clock (range_with_len 0 32) e in
      let i' : i < 32 = omega (arith, l, length-range_with_len 0 32) in
      (m, omega (arith, i', at_i, get_or-range_with_len 0 32 i m i'), hit)

  clocked_by : (m : ℕ) → m < 32 → in_range (module_clock pll m) ≡ true → clocked pll ≡ true
  unfolding clocked eligible_clock
  clocked_by m h e =
      let at_m : get_or (range_with_len 0 32) m 0 ≡ m = omega (arith, get_or-range_with_len 0 32 m 0 h) in
      list_any_at eligible_clock (range_with_len 0 32) m 0 (omega (arith, h, length-range_with_len 0 32)) (rw at_m e)

  -- its candidates are eligible
  candidates : (m place : ℕ) → m < 32 → place < 272 → in_range (module_clock pll m) ≡ true
      → Eligible pll (m * 272 + place)
  candidates m place h p e =
      let both = (and-eq-true_iff _ _).0 e in
      record {
        scanned = omega arith;
        least = rw (digits_div m p) (leb-true _ _ both.0);
        most = rw (digits_div m p) (leb-true _ _ both.1);
      }

eligible_clocked : (pll i : ℕ) → Eligible pll i → clocked pll ≡ true
eligible_clocked pll i f =
    clocked_by pll (i / 272) (omega (arith, f.scanned))
    ((and-eq-true_iff _ _).1 (le-leb _ _ f.least, le-leb _ _ f.most))

not_true : (b : Bool) → (b ≡ true → ⊥) → b ≡ false
not_true true h = absurd (h refl)
not_true false h = refl

pub no_clock_no_candidate : NoClockNoCandidate
no_clock_no_candidate pll = (
  λ e i f. true≢false (sym (eligible_clocked pll i f) ∙ e),
  λ none. not_true _ (λ e. let (m, h, r) = found pll e in none _ (candidates pll m 0 h (omega arith) r)),
)

-- m = 0 up to 100,000,000, m = 31 from there on
pub clocked_inside : (pll : ℕ) → 1 ≤ pll → pll < 3_200_000_032 → clocked pll ≡ true
clocked_inside pll l h =
    elim (dec_le pll 100_000_000) [
      | yes s ↦ eligible_clocked pll 0 (record { scanned = omega arith; least = omega arith; most = omega arith })
      | no f ↦ eligible_clocked pll 8_432 (record { scanned = omega arith; least = omega arith; most = omega arith })
    ]

pub no_clock_exactly : NoClockExactly
no_clock_exactly pll = (
  outside,
  λ o. (no_clock_no_candidate pll).1 (⊎_elim (λ z. rw z none_at_zero) (none_beyond pll) o),
)
  where
    outside : clocked pll ≡ false → (pll ≡ 0) ⊎ (3_200_000_032 ≤ pll)
    outside e =
        elim (dec_le 3_200_000_032 pll) [
          | yes l ↦ inr l
          | no g ↦
              elim (dec_le 1 pll) [
                | no z ↦ inl (omega arith)
                | yes l ↦ absurd (true≢false (sym (clocked_inside pll l (omega arith)) ∙ e))
              ]
        ]

-- a module clock from 1 Hz on, halved until it is not above the target, is still from 1 Hz on
halved :
    (clock target : ℕ) →
    1 ≤ clock →
    1 ≤ target →
    (c : ℕ) →
    clock / 2 ^ c ≤ target →
    (k : ℕ) × (k ≤ c) × (1 ≤ clock / 2 ^ k) × (clock / 2 ^ k ≤ target)
halved clock target l t zero h = (0, omega arith, rw div-one l, h)
halved clock target l t (suc c) h =
    elim (dec_le (clock / 2 ^ c) target) [
      | yes b ↦ let (k, a, d, e) = halved clock target l t c b in (k, omega arith, d, e)
      | no g ↦
          let half : clock / 2 ^ c / 2 ≡ clock / 2 ^ suc c = rw add-one at (shr-shr clock c 1) in
          (suc c, omega arith, rw (← half) (omega arith), h)
    ]

cdr1_rate : (pll m c : ℕ) → c < 16 → rate pll (m * 272 + c) ≡ module_clock pll m / 2 ^ c
cdr1_rate pll m c h =
    let inside : c < 272 = omega arith in
    rw (digits_div m inside, digits_mod m inside, factors_by_rule c inside, cdr1_formula c (omega arith))

-- a rate of 0 Hz is no choice
not_zero : (pll target i : ℕ) → 1 ≤ target → IsChoice pll target i → 1 ≤ rate pll i
not_zero pll target i t is =
    elim (dec_lt (rate pll i) 1) [
      | no g ↦ omega arith
      | yes z ↦
          let m = i / 272 in
          let place = i % 272 in
          let clock = module_clock pll m in
          let p : place < 272 = omega arith in
          let slow = (div-lt_iff_lt-mul {k = factor_at place} {x = clock} {y = 1} (factor_pos place p)).0 z in
          let most : clock / 2 ^ 15 ≤ target = omega (arith, factor_most place p) in
          let (k, few, one, under) = halved clock target is.eligible.least t 15 most in
          let q : k < 272 = omega arith in
          let h : m < 32 = omega (arith, is.eligible.scanned) in
          let both = (and-eq-true_iff _ _).1 (le-leb _ _ is.eligible.least, le-leb _ _ is.eligible.most) in
          let near = is.nearest _ (candidates pll m k h q both) in
          let nearer = rw (cdr1_rate pll m k (omega arith)) at near in
          absurd (omega arith)
    ]

pub choice_rate : ChoiceRate
choice_rate pll target e l t =
    let (m, h, r) = found pll e in
    let some = candidates pll m 0 h (omega arith) r in
    let fits : pll < 2 ^ 32 =
    elim (dec_lt pll (2 ^ 32)) [ yes p ↦ p | no g ↦ absurd (none_beyond pll (omega arith) _ some) ] in
    let is = chosen_is pll target fits t _ some in
    record { least = not_zero pll target _ l is; most = le_trans (div-le_self _ _) is.eligible.most }

chosen_scanned : (pll target : ℕ) → chosen pll target < 8_704
unfolding chosen_by
chosen_scanned pll target = omega arith

pub opening_rate : OpeningRate
opening_rate pll target e =
    let t = clamped target in
    rw (candidate_rate pll (chosen pll t) (chosen_scanned pll t)) (choice_rate pll t e (omega arith) (omega arith))

pub clock_met : ClockMet
unfolding clocked factor_at rank_by lowest_by chosen_by
clock_met = record { first = refl; last = refl; least = refl; most = refl }
