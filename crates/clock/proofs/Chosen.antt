-- The chosen candidate is the one choice that document 01 asks for, for every 32-bit PLL and target.
use mathlib.Core.Bool.{Bool, true, false, and-eq-true_iff}
use mathlib.Core.Logic.{◌⊎◌, inl, inr, ⊎_elim}
use mathlib.Core.Path.{◌≡◌, ◌∙◌, refl, sym, ap}
use Prim.Native.Nat.{ℕ, zero, suc, ◌+◌, ◌*◌, ◌/◌, ◌%◌, ◌^◌, ◌≤◌, ◌<◌}
use lib.Arith.{digits_mod}
use borrow.Author.Tests.{le-leb, leb-true}
use native.Mathlib.Decide.{dec_lt, dec_le}
use native.Mathlib.Nat.{le_antisymm, le_trans, lt_of_le_of_lt, div-le_self}
use native.Mathlib.Omega.{arith}
use Rattle.clock.specs.Candidate.{candidate, module_clock, in_range, factor_at, rate, Eligible}
use Rattle.clock.specs.Choose.{apart, IsChoice, fallback, NoneEligible}
use Rattle.clock.specs.Rank.{cost, far, rank_by, lowest_by, chosen_by, rank, lowest, chosen, choice}
use Rattle.clock.specs.Laws.{ChoiceRight, OnlyOne, Nearest, NotAboveAmongEquals, FirstAmongThose, NoneEligibleFallsBack}
use Rattle.clock.proofs.Lowest.{lowest_most}

-- at most one candidate is the choice
pub unique : {pll target i j : ℕ} → IsChoice pll target i → IsChoice pll target j → i ≡ j
unique {i} {j} c d =
    let same = le_antisymm (d.nearest i c.eligible) (c.nearest j d.eligible) in
    le_antisymm (c.first j d.eligible same (d.not_above_lem i c.eligible (sym same)))
    (d.first i c.eligible (sym same) (c.not_above_lem j d.eligible same))

cost_near : (r s t : ℕ) → cost r t ≤ cost s t → apart r t ≤ apart s t
cost_near r s t h = omega arith

cost_below : (r s t : ℕ) → cost r t ≤ cost s t → apart s t ≡ apart r t → s ≤ t → r ≤ t
cost_below r s t h e b = omega arith

cost_same : (r s t : ℕ) → apart s t ≡ apart r t → (r ≤ t → s ≤ t) → cost s t ≤ cost r t
cost_same r s t e f = elim (dec_le r t) [ yes b ↦ (let l = f b in omega arith) | no g ↦ omega arith ]

cost_most : (r t : ℕ) → r < 2 ^ 32 → t < 2 ^ 32 → cost r t < far
cost_most r t hr ht = omega arith

digits_le : {a b i j : ℕ} → i < 8_704 → j < 8_704 → a * 8_704 + i ≤ b * 8_704 + j → a ≤ b
digits_le hi hj h = omega arith

digits_below : {a i b : ℕ} → i < 8_704 → a < b → a * 8_704 + i < b * 8_704
digits_below h l = omega arith

digits_first : {a b i j : ℕ} → a * 8_704 + i ≤ b * 8_704 + j → b ≤ a → i ≤ j
digits_first h l = omega arith

module _ (pll target : ℕ) where
  near_rank : (i : ℕ) → Eligible pll i → rank pll target i ≡ cost (rate pll i) target * 8_704 + i
  unfolding rank_by
  near_rank i e = rw (le-leb _ _ e.least, le-leb _ _ e.most)

  -- a rank below that of no candidate is an eligible one's
  eligible_of : (i : ℕ) → i < 8_704 → rank pll target i < far * 8_704 → Eligible pll i
  unfolding rank_by
  eligible_of i h l = go (in_range (module_clock pll (i / 272))) refl
    where
      go : (b : Bool) → in_range (module_clock pll (i / 272)) ≡ b → Eligible pll i
      go true e =
          let both = (and-eq-true_iff _ _).0 e in
          record { scanned = h; least = leb-true _ _ both.0; most = leb-true _ _ both.1 }
      go false e = let l' = rw e at l in absurd (omega arith)

  -- the lowest rank is at most each, and one of them
  lowest_least : (n j : ℕ) → j < n → lowest pll target n ≤ rank pll target j
  unfolding lowest_by
  lowest_least zero j h = omega arith
  lowest_least (suc n) j h =
      elim (dec_lt j n) [
        | yes l ↦ omega (arith, lowest_least n j l)
        | no g ↦ let e : j ≡ n = omega arith in rw e (omega arith)
      ]

  lowest_found :
      (n : ℕ) → lowest pll target n < far * 8_704 → (i : ℕ) × (i < n) × (lowest pll target n ≡ rank pll target i)
  unfolding lowest_by
  lowest_found zero h = absurd (omega arith)
  lowest_found (suc n) h =
      elim (dec_lt (rank pll target n) (lowest pll target n)) [
        | yes l ↦ (n, omega arith, omega arith)
        | no g ↦ let (i, l, e) = lowest_found n (omega arith) in (i, omega arith, omega arith)
      ]

  -- an eligible candidate of the least rank is the choice
  least_choice :
      (i : ℕ) → Eligible pll i → ((j : ℕ) → j < 8_704 → rank pll target i ≤ rank pll target j) → IsChoice pll target i
  least_choice i e least = record {
    eligible = e;
    nearest = λ j f. cost_near _ _ target (ordered j f);
    not_above_lem = λ j f same b. cost_below _ _ target (ordered j f) same b;
    first = λ j f same g. first_of j f (cost_same _ _ target same g);
  }
    where
      ranks : (j : ℕ) → Eligible pll j → cost (rate pll i) target * 8_704 + i ≤ cost (rate pll j) target * 8_704 + j
      ranks j f = rw (near_rank i e, near_rank j f) at (least j f.scanned)

      ordered : (j : ℕ) → Eligible pll j → cost (rate pll i) target ≤ cost (rate pll j) target
      ordered j f = digits_le e.scanned f.scanned (ranks j f)

      first_of : (j : ℕ) → Eligible pll j → cost (rate pll j) target ≤ cost (rate pll i) target → i ≤ j
      first_of j f = digits_first (ranks j f)

  found_choice :
      (i : ℕ) → Eligible pll i → lowest pll target 8_704 ≡ rank pll target i → IsChoice pll target (chosen pll target)
  unfolding chosen_by
  found_choice i e l =
      let index = ap (λ n. n % 8_704) (l ∙ near_rank i e) ∙ digits_mod _ e.scanned in
      rw index (least_choice i e (λ j h. rw (← l) (lowest_least 8_704 j h)))

module _ (pll target : ℕ) (p : pll < 2 ^ 32) (t : target < 2 ^ 32) where
  near_below : (i : ℕ) → Eligible pll i → rank pll target i < far * 8_704
  near_below i e =
      let divided = div-le_self (module_clock pll (i / 272)) (factor_at (i % 272)) in
      let small = le_trans divided (div-le_self pll (i / 272 + 1)) in
      rw (near_rank pll target i e) (digits_below e.scanned (cost_most (rate pll i) target (lt_of_le_of_lt small p) t))

  outcome : IsChoice pll target (chosen pll target) ⊎ (NoneEligible pll × (choice pll target ≡ fallback))
  unfolding chosen_by
  outcome =
      elim (dec_lt (lowest pll target 8_704) (far * 8_704)) [
        | yes l ↦
            let (i, h, e) = lowest_found pll target 8_704 l in
            inl (found_choice pll target i (eligible_of pll target i h (rw (← e) l)) e)
        | no g ↦
            let last : lowest pll target 8_704 ≡ far * 8_704 = omega (arith, lowest_most pll target 8_704) in
            inr (λ i e. omega (arith, near_below i e, lowest_least pll target 8_704 i e.scanned), rw last)
      ]

  -- where a candidate is eligible, the chosen one is the choice
  pub chosen_is : (j : ℕ) → Eligible pll j → IsChoice pll target (chosen pll target)
  chosen_is j f = ⊎_elim (λ c. c) (λ n. absurd (n.0 j f)) outcome

pub choice_right : ChoiceRight
choice_right pll target p t = ⊎_elim (λ c. inl (chosen pll target, c, refl)) inr (outcome pll target p t)

pub nearest : Nearest
nearest pll target p t j f = (chosen_is pll target p t j f).nearest j f

pub not_above_among_equals : NotAboveAmongEquals
not_above_among_equals pll target p t j f = (chosen_is pll target p t j f).not_above_lem j f

pub first_among_those : FirstAmongThose
first_among_those pll target p t j f = (chosen_is pll target p t j f).first j f

pub none_eligible : NoneEligibleFallsBack
none_eligible pll target p t none = ⊎_elim (λ c. absurd (none _ c.eligible)) (λ n. n.1) (outcome pll target p t)

pub only_one : OnlyOne
only_one pll target c d (inl (i, x, e)) (inl (j, y, f)) = e ∙ ap candidate (unique x y) ∙ sym f
only_one pll target c d (inl (i, x, e)) (inr (none, f)) = absurd (none i x.eligible)
only_one pll target c d (inr (none, e)) (inl (j, y, f)) = absurd (none j y.eligible)
only_one pll target c d (inr (none, e)) (inr (none', f)) = e ∙ sym f
