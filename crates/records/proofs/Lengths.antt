-- Which numbers the check never gives.
use Rattle.std.proofs.Common.{◌≡◌, ℕ, zero, suc, ◌+◌, ◌^◌, ◌≤◌, ◌<◌, ◌/◌, Bool, true, false, cond, ◌&&◌, eqb, ltb}
use Rattle.std.proofs.Common.{List, [], ◌∷◌, length, take, drop}
use Rattle.std.proofs.Common.{Result, Ok, Err, ◌⊎◌, inl, inr, refl, ap, sym, ◌∙◌, arith}
use Rattle.std.specs.List.{list_any}
use Rattle.std.proofs.lemmas.Bool.{ltb-false, le-ltb}
use Rattle.std.proofs.lemmas.List.{get_or-drop}
use Rattle.config.specs.declared.error.QspiError.{QspiError}
use Rattle.config.specs.declared.error.QspiError.TheVariants.{Chain, Cycles, Window, Length}
use Rattle.config.specs.Error.{error_number}
use Rattle.records.specs.declared.rules.Rules.{Rules}
use Rattle.records.specs.declared.rules.Rules.TheVariants.{Sheet}
use Rattle.records.specs.Rules.{cycles}
use Rattle.records.specs.Check.{field, too_many, outside_of, too_long, extents_of, extents_fault, windows_fault}
use Rattle.records.specs.Check.{record_fault, Checked, ahead, records_in, checked}
use Rattle.records.specs.Laws.{EachFault, Each, Never6, Words, Never14, OfFault, FaultNumbers}
use Rattle.records.specs.declared.extent.Extent.{Extent}
use Rattle.records.proofs.KindLaws.{neither}
use Rattle.records.proofs.Holds.{checked_holds_of, any_record}

-- 8, 9, 6 or 14: 6 only where no window is outside, 14 only where there are too many cycles
Which : Rules → ℕ → List ℕ → QspiError → Type 0
Which rules memory r e =
    let outside = list_any (outside_of memory) (extents_of r) in
    let long = list_any too_long (extents_of r) in
    (e ≡ Chain)
    ⊎ ((e ≡ Window)
    ⊎ (((e ≡ Length) × (outside ≡ false) × (long ≡ true))
    ⊎ ((e ≡ Cycles) × (too_many rules (field r 0) (field r 1) ≡ true))))

record_error : (rules : Rules) (memory count own : ℕ) (r : List ℕ) (e : QspiError)
    → record_fault rules memory count own r ≡ Err e → Which rules memory r e
unfolding Which record_fault windows_fault extents_fault
record_error rules memory count own r e = by _ _ _ refl _ refl _ refl
  where
    by :
        (a n c : Bool)
        → too_many rules (field r 0) (field r 1) ≡ c
        → (b : Bool)
        → list_any (outside_of memory) (extents_of r) ≡ b
        → (d : Bool)
        → list_any too_long (extents_of r) ≡ d
        → ◌≡◌ {A = Result (Unit {0}) QspiError}
        (cond a (Err Chain)
        (cond n (Err Chain) (cond c (Err Cycles) (cond b (Err Window) (cond d (Err Length) (Ok tt))))))
        (Err e)
        → Which rules memory r e
    by true n c o b p d q h = inl cc
    by false true c o b p d q h = inl cc
    by false false true o b p d q h = inr (inr (inr (cc, o)))
    by false false false o true p d q h = inr (inl cc)
    by false false false o false p true q h = inr (inr (inl (cc, p, q)))
    by false false false o false p false q h = cc

-- What every fault's number is: what it is of every record, of which W may hold, and 8.
module _ (P : ℕ → Type 0) where
  ahead_each : (r : List ℕ) (c : Checked) → EachFault P c → EachFault P (ahead r c)
  ahead_each r (Err f) h = h
  ahead_each r (Ok rs) h = tt

  checked_each : (W : List ℕ → Type 0) (rules : Rules) (memory : ℕ) (ws : List ℕ)
      → Each W (records_in (length ws / 8) ws) → P 8
      → ((r : List ℕ) (e : QspiError) → W r → Which rules memory r e → P (error_number e))
      → EachFault P (checked rules memory ws)
  checked_each W rules memory ws each eight holds =
      checked_holds_of W (EachFault P) rules memory ws each tt eight
      (λ own r e w z. holds r e w (record_error rules memory (length ws / 8) own r e z))
      (λ own r c w e h. ahead_each r c h)

short : (p : Bool) (n : ℕ) → n ≤ 0xFFFFFF → (p && ltb 0xFFFFFF n) ≡ false
short true n h = le-ltb _ _ h
short false n h = refl

module _ (memory : ℕ) (small : memory ≤ 0xFFFFFF) where
  inside_short : (es : List Extent) → list_any (outside_of memory) es ≡ false → list_any too_long es ≡ false
  inside_short [] e = refl
  inside_short (x ∷ es) e =
      let n = neither (outside_of memory x) (list_any (outside_of memory) es) e in
      rw (short x.phase x.size (omega (arith, ltb-false memory (x.start + x.size) n.0))) (inside_short es n.1)

  not_6 : (rules : Rules) (r : List ℕ) (e : QspiError) → Which rules memory r e → error_number e ≡ 6 → ⊥
  unfolding Which
  not_6 rules r e (inl p) z = let n : ◌≡◌ {A = ℕ} 8 6 = ap error_number (sym p) ∙ z in omega arith
  not_6 rules r e (inr (inl p)) z = let n : ◌≡◌ {A = ℕ} 9 6 = ap error_number (sym p) ∙ z in omega arith
  not_6 rules r e (inr (inr (inl p))) z = let n = inside_short (extents_of r) p.1 in cc
  not_6 rules r e (inr (inr (inr p))) z = let n : ◌≡◌ {A = ℕ} 14 6 = ap error_number (sym p.0) ∙ z in omega arith

pub never_6 : Never6
never_6 memory small rules ws =
    checked_each (λ n. n ≡ 6 → ⊥) (λ r. Unit {0}) rules memory ws (any_record _) (λ e. omega (arith, e))
    (λ r e w. not_6 memory small rules r e)

-- Records of words of 32 bits have such words.
words_take : (n : ℕ) (ws : List ℕ) → Words ws → Words (take n ws)
words_take zero ws h i = omega arith
words_take (suc n) [] h i = omega arith
words_take (suc n) (w ∷ ws) h zero = h 0
words_take (suc n) (w ∷ ws) h (suc i) = words_take n ws (λ j. h (suc j)) i

records_words : (n : ℕ) (ws : List ℕ) → Words ws → Each Words (records_in n ws)
unfolding records_in
records_words zero ws h = tt
records_words (suc n) ws h =
    (words_take 8 ws h, records_words n (drop 8 ws) (λ i. rw (get_or-drop 8 ws i 0) (h (8 + i))))

halves_fit : (k ns : ℕ) → ns < 2 ^ 32 → too_many Sheet k ns ≡ false
unfolding cycles
halves_fit k ns h = by (eqb k 5)
  where
    by : (b : Bool) → (b && ltb 0xFFFFFFFF (ns / 2)) ≡ false
    by true = le-ltb 0xFFFFFFFF (ns / 2) (omega (arith, h))
    by false = refl

not_14 : (memory : ℕ) (r : List ℕ) (e : QspiError) → Words r → Which Sheet memory r e → error_number e ≡ 14 → ⊥
unfolding Which
not_14 memory r e w (inl p) z = let n : ◌≡◌ {A = ℕ} 8 14 = ap error_number (sym p) ∙ z in omega arith
not_14 memory r e w (inr (inl p)) z = let n : ◌≡◌ {A = ℕ} 9 14 = ap error_number (sym p) ∙ z in omega arith
not_14 memory r e w (inr (inr (inl p))) z = let n : ◌≡◌ {A = ℕ} 6 14 = ap error_number (sym p.0) ∙ z in omega arith
not_14 memory r e w (inr (inr (inr p))) z = let n = halves_fit (field r 0) (field r 1) (w 1) in cc

pub never_14 : Never14
never_14 ws h memory =
    checked_each (λ n. n ≡ 14 → ⊥) Words Sheet memory ws (records_words _ ws h) (λ e. omega (arith, e)) (not_14 memory)

number_of_which : (rules : Rules) (memory : ℕ) (r : List ℕ) (e : QspiError) → Which rules memory r e
    → OfFault (error_number e)
unfolding Which
number_of_which rules memory r e (inl p) = inr (inl (ap error_number p))
number_of_which rules memory r e (inr (inl p)) = inr (inr (inl (ap error_number p)))
number_of_which rules memory r e (inr (inr (inl p))) = inl (ap error_number p.0)
number_of_which rules memory r e (inr (inr (inr p))) = inr (inr (inr (ap error_number p.0)))

pub fault_numbers : FaultNumbers
fault_numbers rules memory ws =
    checked_each OfFault (λ r. Unit {0}) rules memory ws (any_record _)
    (inr (inl refl)) (λ r e w. number_of_which rules memory r e)
