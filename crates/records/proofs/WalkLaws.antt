-- The chain, record by record: what a record without a fault says of its next, and the ways that a turn of a loop along
-- the chain can go.
use Rattle.std.proofs.Common.{◌≡◌, ℕ, zero, suc, ◌+◌, ◌-◌, ◌*◌, ◌/◌, ◌%◌, ◌<◌, ◌≤◌, Bool, true, false, cond}
use Rattle.std.proofs.Common.{eqb, List, [], ◌∷◌, length, drop, Result, Ok, Err, ◌⊎◌, inl, inr}
use Rattle.std.proofs.Common.{refl, ap, sym, ◌∙◌, arith}
use Rattle.std.proofs.lemmas.Bool.{ne_eqb, eq-eqb, eqb-true}
use Rattle.std.proofs.lemmas.Bool.Decides.{nat_tests}
use Rattle.std.proofs.Math.Seq.{drop-drop}
use Rattle.config.specs.declared.error.QspiError.{QspiError}
use Rattle.config.specs.declared.error.QspiError.TheVariants.{Chain}
use Rattle.records.specs.declared.Fault.{Fault}
use Rattle.records.specs.declared.rules.Rules.{Rules}
use Rattle.records.specs.Check.{record_at, next_of, next_fits, record_fault}
use Rattle.records.proofs.KindLaws.{fitting_next}
use Rattle.records.specs.Check.{Checked, fault, ahead, step, records_in, along, checked, verdict, chain_of}

next_is : (own count n : ℕ) → next_fits own count n ≡ true → (n ≡ 0) ⊎ ((own < n) × (n ≤ count))
next_is own count n h = grind (arith, nat_tests)

-- the next of a record without a fault
pub sound_next : (rules : Rules) (memory count own : ℕ) (r : List ℕ) → record_fault rules memory count own r ≡ Ok tt
    → (next_of r ≡ 0) ⊎ ((own < next_of r) × (next_of r ≤ count))
sound_next rules memory count own r e = next_is own count (next_of r) (fitting_next rules memory count own r e)

-- the records behind k others
drop_records : (k n : ℕ) (ws : List ℕ) → drop k (records_in n ws) ≡ records_in (n - k) (drop (8 * k) ws)
unfolding records_in
drop_records zero n ws = let e : n - 0 ≡ n = omega arith in rw e refl
drop_records (suc k) zero ws = let e : zero - suc k ≡ 0 = omega arith in rw e refl
drop_records (suc k) (suc n) ws =
    let e : suc n - suc k ≡ n - k = omega arith in
    let f : 8 + 8 * k ≡ 8 * suc k = omega arith in
    drop_records k n (drop 8 ws) ∙ rw (e, drop-drop, f) refl

-- a fault is not fine
faults : Result (Unit {0}) Fault → ℕ
faults (Err f) = 1
faults (Ok done) = 0

pub not_fine : (f : Fault) → ◌≡◌ {A = Result (Unit {0}) Fault} (Err f) (Ok tt) → ⊥
unfolding faults
not_fine f e = omega (arith, ap faults e)

pub fine_eight : (rules : Rules) (memory : ℕ) (ws : List ℕ) → verdict (checked rules memory ws) ≡ Ok tt
    → length ws % 8 ≡ 0
unfolding checked
fine_eight rules memory ws = by (eqb (length ws % 8) 0) refl
  where
    by : (b : Bool) → eqb (length ws % 8) 0 ≡ b
        → verdict (cond b (along rules memory (length ws / 8) (records_in (length ws / 8) ws) 1 1)
        (Err (fault Chain 0))) ≡ Ok tt
        → length ws % 8 ≡ 0
    by true e f = eqb-true _ _ e
    by false e f = absurd (not_fine (fault Chain 0) f)

chain_ahead : (r : List ℕ) (c : Checked) → verdict c ≡ Ok tt → chain_of (ahead r c) ≡ r ∷ chain_of c
chain_ahead r (Err f) e = absurd (not_fine f e)
chain_ahead r (Ok rs) e = refl

pub passed : (r : List ℕ) (rest : Checked) → verdict (ahead r rest) ≡ verdict rest
passed r (Err f) = refl
passed r (Ok rs) = refl

module _ (rules : Rules) (memory : ℕ) (ws : List ℕ) where
  abbrev pub count : ℕ
  count = length ws / 8

  -- the fault of record own, and its next
  abbrev pub fault_at : ℕ → Result (Unit {0}) QspiError
  fault_at own = record_fault rules memory count own (record_at ws own)

  abbrev pub next_at : ℕ → ℕ
  next_at own = next_of (record_at ws own)

  -- the records after the first k, and the chain from record own on
  abbrev pub left : ℕ → List (List ℕ)
  left k = drop k (records_in count ws)

  abbrev pub from : ℕ → Checked
  from own = along rules memory count (left (own - 1)) own own

  left_next : (own : ℕ) → 1 ≤ own → own ≤ count → left (own - 1) ≡ record_at ws own ∷ left own
  unfolding records_in record_at
  left_next own one most =
      let e : count - (own - 1) ≡ suc (count - own) = omega arith in
      let f : 8 * (own - 1) + 8 ≡ 8 * own = omega arith in
      drop_records (own - 1) count ws ∙ rw (e, drop-drop, f, ← drop_records own count ws) refl

  -- records that are not due are not looked at
  passes : (k own due : ℕ) (rs : List (List ℕ)) → due ≡ own + k
      → along rules memory count rs own due ≡ along rules memory count (drop k rs) due due
  unfolding along
  passes zero own due rs e = let f : own ≡ due = omega arith in rw f refl
  passes (suc k) own due [] e = refl
  passes (suc k) own due (r ∷ rs) e =
      rw (ne_eqb own due (λ z. omega (arith, z))) (passes k (suc own) due rs (omega arith))

  -- what stands behind record own
  behind : ℕ → Checked
  behind own = cond (eqb (next_at own) 0) (Ok []) (along rules memory count (left own) (suc own) (next_at own))

  from_at : (own : ℕ) → 1 ≤ own → own ≤ count → from own ≡ step (fault_at own) own (record_at ws own) (behind own)
  unfolding along behind
  from_at own one most = rw (left_next own one most, eq-eqb own own refl) refl

  pub from_last : (own : ℕ) → 1 ≤ own → own ≤ count → fault_at own ≡ Ok tt → next_at own ≡ 0
      → from own ≡ Ok (record_at ws own ∷ [])
  unfolding behind
  from_last own one most e z = from_at own one most ∙ rw (e, z) refl

  pub from_on : (own : ℕ) → 1 ≤ own → own ≤ count → fault_at own ≡ Ok tt → (next_at own ≡ 0 → ⊥)
      → (own < next_at own) × (next_at own ≤ count) × (from own ≡ ahead (record_at ws own) (from (next_at own)))
  unfolding behind
  from_on own one most e more =
      let l : (own < next_at own) × (next_at own ≤ count) =
      elim (sound_next rules memory count own (record_at ws own) e) [ inl z ↦ absurd (more z) | inr l ↦ l ] in
      let g : own + (next_at own - suc own) ≡ next_at own - 1 = omega (arith, l.0) in
      let moved : along rules memory count (left own) (suc own) (next_at own) ≡ from (next_at own) =
      passes (next_at own - suc own) (suc own) (next_at own) (left own) (omega (arith, l.0)) ∙ rw (drop-drop, g) refl in
      (l.0, l.1, from_at own one most ∙ rw (e, ne_eqb _ _ more) (ap (ahead (record_at ws own)) moved))

  pub from_fault : (own : ℕ) (e : QspiError) → 1 ≤ own → own ≤ count → fault_at own ≡ Err e
      → from own ≡ Err (fault e own)
  from_fault own e one most h = from_at own one most ∙ rw h refl

  -- the whole chain
  pub whole_empty : length ws % 8 ≡ 0 → count ≡ 0 → checked rules memory ws ≡ Ok []
  unfolding checked along records_in
  whole_empty m z = simp (eq-eqb _ _ m, z)

  pub whole_from : length ws % 8 ≡ 0 → checked rules memory ws ≡ from 1
  unfolding checked
  whole_from m = simp (eq-eqb _ _ m)

  -- a turn at record own, in which it was read as r
  module _ (own : ℕ) (one : 1 ≤ own) (most : own ≤ count) (r : List ℕ) (here : r ≡ record_at ws own) where
    pub turn_stops : (e : QspiError) → record_fault rules memory count own r ≡ Err e
        → verdict (from own) ≡ Err (fault e own)
    turn_stops e f = ap verdict (from_fault own e one most (rw here at f))

    pub turn_ends : record_fault rules memory count own r ≡ Ok tt → next_of r ≡ 0 → verdict (from own) ≡ Ok tt
    turn_ends f z = ap verdict (from_last own one most (rw here at f) (rw here at z))

    pub turn_goes_on : record_fault rules memory count own r ≡ Ok tt → (next_of r ≡ 0 → ⊥)
        → (own < next_of r) × (next_of r ≤ count) × (verdict (from (next_of r)) ≡ verdict (from own))
    turn_goes_on f more =
        let on = from_on own one most (rw here at f) (rw here at more) in
        rw here (on.0, on.1, sym (ap verdict on.2 ∙ passed (record_at ws own) (from (next_at own))))

  -- a record from which on nothing is found
  module _ (own : ℕ) (one : 1 ≤ own) (most : own ≤ count) (fine : verdict (from own) ≡ Ok tt) where
    pub no_fault : fault_at own ≡ Ok tt
    no_fault = by (fault_at own) refl
      where
        by : (a : Result (Unit {0}) QspiError) → fault_at own ≡ a → fault_at own ≡ Ok tt
        by (Ok done) e = e
        by (Err f) e = absurd (not_fine (fault f own) (ap verdict (sym (from_fault own f one most e)) ∙ fine))

    pub alone : next_at own ≡ 0 → chain_of (from own) ≡ record_at ws own ∷ []
    alone z = ap chain_of (from_last own one most no_fault z)

    pub before_others : (next_at own ≡ 0 → ⊥)
        → (own < next_at own) × (next_at own ≤ count) × (verdict (from (next_at own)) ≡ Ok tt)
        × (chain_of (from own) ≡ record_at ws own ∷ chain_of (from (next_at own)))
    before_others n =
        let f = from_on own one most no_fault n in
        let rest = from (next_at own) in
        let behind : verdict rest ≡ Ok tt = sym (ap verdict f.2 ∙ passed (record_at ws own) rest) ∙ fine in
        (f.0, f.1, behind, ap chain_of f.2 ∙ chain_ahead (record_at ws own) rest behind)
