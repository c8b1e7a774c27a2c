-- A digit more, the number of a word, and the first place where a case ends.
use Rattle.std.proofs.Common.{◌≡◌, refl, sym, ap, ◌∙◌, inl, inr, eq-or-lt_of_le, length-drop, ℕ, zero, suc, ◌+◌, ◌-◌}
use Rattle.std.proofs.Common.{◌*◌, ◌^◌, ◌≤◌, ◌<◌, true, false, List, [], ◌∷◌, length, take, drop, get_or, Option, None}
use Rattle.std.proofs.Common.{Some, MatchOption, SomeIff, IfSome, nat_eq, arith, add-one, drop-cons, drop_of_length-le}
use Rattle.std.proofs.Common.{lt-ltb, le-ltb, take_all, eq-eqb}
use Rattle.std.specs.List.{starts_with}
use Rattle.cases.specs.Number.{digit_of, in_32, step, value_of, is_hex, number_of}
use Rattle.cases.specs.Ends.{ends_at, end_within, end_from}

-- one digit more
module _ (base v b : ℕ) where
  pub step_none : digit_of b ≡ None → step base v b ≡ None
  unfolding step
  step_none e = rw e

  pub step_above : (d : ℕ) → digit_of b ≡ Some d → base ≤ d → step base v b ≡ None
  unfolding step
  step_above d e h = rw (e, le-ltb _ _ h)

  pub step_over : (d : ℕ) → digit_of b ≡ Some d → d < base → 2 ^ 32 ≤ v * base + d → step base v b ≡ None
  unfolding step in_32
  step_over d e h k = rw (e, lt-ltb _ _ h, le-ltb _ _ k)

  pub step_below : (d : ℕ) → digit_of b ≡ Some d → d < base → v * base + d < 2 ^ 32
      → step base v b ≡ Some (v * base + d)
  unfolding step in_32
  step_below d e h k = rw (e, lt-ltb _ _ h, lt-ltb _ _ k)

  pub step_sum : (d : ℕ) → digit_of b ≡ Some d → d < base → (m : ℕ) → m ≡ v * base
      → (r : Option ℕ) → SomeIff r (m + d < 2 ^ 32) (m + d) → r ≡ step base v b
  step_sum d e h m q None k = sym (step_over d e h (omega (arith, k)))
  step_sum d e h m q (Some n) k =
      ap (λ (x : ℕ). Some x) (omega (arith, k.1)) ∙ sym (step_below d e h (omega (arith, k.0)))

-- a turn over the digits, and the end
module _ (base v : ℕ) (ds : List ℕ) (i : ℕ) where
  pub value_stops : i < length ds → step base v (get_or ds i 0) ≡ None → value_of base v (drop i ds) ≡ None
  unfolding value_of
  value_stops h e = rw (drop-cons ds i 0, e)

  pub value_next : (w : ℕ) → i < length ds → step base v (get_or ds i 0) ≡ Some w
      → value_of base v (drop i ds) ≡ value_of base w (drop (i + 1) ds)
  unfolding value_of
  value_next w h e = rw (add-one, drop-cons ds i 0, e)

  pub value_end : length ds ≤ i → value_of base v (drop i ds) ≡ Some v
  unfolding value_of
  value_end h = rw (drop_of_length-le ds h)

-- the first place where a case ends
pub end_none : (text : List ℕ) (k i : ℕ)
    → ((j : ℕ) → i ≤ j → j < i + k → ends_at text j ≡ false) → end_within text k i ≡ None
unfolding end_within
end_none text zero i none = refl
end_none text (suc k) i none =
    let here : ends_at text i ≡ false = none i (omega arith) (omega arith) in
    rw here (end_none text k (i + 1) (λ j h l. none j (omega arith) (omega arith)))

pub end_some : (text : List ℕ) (k i n : ℕ) → i ≤ n → n < i + k → ends_at text n ≡ true
    → ((j : ℕ) → i ≤ j → j < n → ends_at text j ≡ false)
    → end_within text k i ≡ Some n
unfolding end_within
end_some text zero i n h l e none = absurd (omega arith)
end_some text (suc k) i n h l e none =
    elim (eq-or-lt_of_le h) [
      | inl q ↦ (let here : ends_at text i ≡ true = rw q e in rw here (ap (λ (m : ℕ). Some m) q))
      | inr q ↦ (
          let here : ends_at text i ≡ false = none i (omega arith) q in
          rw here (end_some text k (i + 1) n (omega arith) (omega arith) e (λ j m p. none j (omega arith) p)))
    ]

-- the first place of all, by a search
abbrev pub First : List ℕ → ℕ → Option ℕ → Type 0
First text from r =
    MatchOption r ((k : ℕ) → from ≤ k → k < length text → ends_at text k ≡ false)
    (λ i. (from ≤ i) × (i < length text) × (ends_at text i ≡ true)
    × ((k : ℕ) → from ≤ k → k < i → ends_at text k ≡ false))

pub end_found : (text : List ℕ) (from : ℕ) (r : Option ℕ) → First text from r → r ≡ end_from text from
end_found text from None h = sym (end_none text _ from (λ j l m. h j l (omega arith)))
end_found text from (Some i) h = sym (end_some text _ from i h.0 (omega (arith, h.1)) h.2 h.3)

three : (xs : List ℕ) → starts_with nat_eq xs (10 ∷ 46 ∷ 10 ∷ []) ≡ true → 3 ≤ length xs
three [] e = cc
three (a ∷ []) e = grind arith
three (a ∷ b ∷ []) e = grind arith
three (a ∷ b ∷ c ∷ xs) e = omega arith

pub ends_inside : (text : List ℕ) (i : ℕ) → ends_at text i ≡ true → i + 3 ≤ length text
unfolding ends_at
ends_inside text i e = let some : 3 ≤ length (drop i text) = three (drop i text) e in omega (arith, length-drop i text)

pub end_bounds : (text : List ℕ) (from : ℕ) (r : Option ℕ) → First text from r
    → IfSome r (λ i. (from ≤ i) × (i + 3 ≤ length text))
end_bounds text from None h = _
end_bounds text from (Some i) h = (h.0, ends_inside text i h.2)

-- the digits of a word with 0x are all that follows
pub number_hex : (w : List ℕ) → 3 ≤ length w → get_or w 0 0 ≡ 48 → get_or w 1 0 ≡ 120
    → value_of 16 0 (take (length w - 2) (drop 2 w)) ≡ number_of w
unfolding number_of is_hex
number_hex w h e k =
    let long : length (drop 2 w) ≤ length w - 2 = omega (arith, length-drop 2 w) in
    rw (le-ltb _ _ h, eq-eqb _ _ e, eq-eqb _ _ k, take_all _ (drop 2 w) long)
