-- The check looks at no field that a kind does not use, by cases over the kinds; and the instances of what the laws ask
-- for.
use Rattle.std.proofs.Common.{◌≡◌, ℕ, zero, suc, Bool, ltb, List, [], ◌∷◌, map, get_or, replicate, refl, ap, ◌∙◌, arith}
use Rattle.std.proofs.lemmas.Bool.{ne_eqb}
use Rattle.std.specs.List.{list_any}
use Rattle.records.specs.declared.rules.Rules.{Rules}
use Rattle.records.specs.Rules.{cycles}
use Rattle.records.specs.Kinds.{kind_of}
use Rattle.records.specs.declared.kinds.Cap.{Cap}
use Rattle.records.specs.Check.{field, out_of_range, too_many, extent_in, extents_fault, windows_fault, record_fault}
use Rattle.records.specs.Laws.{Words, Same, UnusedFields, HypothesesMet}
use Rattle.records.specs.declared.extent.Extent.{Extent}

abbrev extents : ℕ → List ℕ → List Extent
extents k r = map (extent_in r) (kind_of k).windows

abbrev above : ℕ → List ℕ → Bool
above k r = list_any (λ (c : Cap). ltb c.most (field r c.field)) (kind_of k).caps

module _ (r s : List ℕ) where
  looked_at : (k : ℕ) → Same (kind_of k).used r s → (extents k r ≡ extents k s) × (above k r ≡ above k s)
  looked_at zero h = (refl, refl)
  looked_at (suc zero) h = (cc, refl)
  looked_at (suc (suc zero)) h = (cc, refl)
  looked_at (suc (suc (suc zero))) h = (cc, refl)
  looked_at (suc (suc (suc (suc zero)))) h = (cc, refl)
  looked_at (suc (suc (suc (suc (suc zero))))) h = (refl, refl)
  looked_at (suc (suc (suc (suc (suc (suc zero)))))) h = (refl, refl)
  looked_at (suc (suc (suc (suc (suc (suc (suc zero))))))) h = (refl, cc)
  looked_at (suc (suc (suc (suc (suc (suc (suc (suc zero)))))))) h = (cc, cc)
  looked_at (suc (suc (suc (suc (suc (suc (suc (suc (suc zero))))))))) h = (cc, refl)
  looked_at (suc (suc (suc (suc (suc (suc (suc (suc (suc (suc n)))))))))) h = (refl, refl)

module _ (r s : List ℕ) (rules : Rules) where
  delay_looked_at : (k : ℕ) → Same (kind_of k).used r s → too_many rules k (field r 1) ≡ too_many rules k (field s 1)
  delay_looked_at zero h = refl
  delay_looked_at (suc zero) h = refl
  delay_looked_at (suc (suc zero)) h = refl
  delay_looked_at (suc (suc (suc zero))) h = refl
  delay_looked_at (suc (suc (suc (suc zero)))) h = refl
  delay_looked_at (suc (suc (suc (suc (suc zero))))) h = ap (too_many rules 5) h.0
  delay_looked_at (suc (suc (suc (suc (suc (suc k)))))) h =
      rw (ne_eqb (suc (suc (suc (suc (suc (suc k)))))) 5 (λ e. omega (arith, e))) refl

pub unused_fields : UnusedFields
unfolding record_fault out_of_range windows_fault
unused_fields r s a rules memory count own =
    let l = looked_at r s (field r 0) a.used in
    let d : too_many rules (field r 0) (field r 1) ≡ too_many rules (field r 0) (field s 1) =
    delay_looked_at r s rules (field r 0) a.used in
    let k = a.kind in
    let n = a.next in
    let range : out_of_range r ≡ out_of_range s = l.1 ∙ ap (λ k. above k s) k in
    let windows : windows_fault memory r ≡ windows_fault memory s =
    ap (extents_fault memory) (l.0 ∙ ap (λ k. extents k s) k) in
    cc

-- a word above 1 of the longest delay is 0
longest_words : Words (5 ∷ 4294967295 ∷ 0 ∷ 0 ∷ 0 ∷ 0 ∷ 0 ∷ 0 ∷ [])
longest_words zero = omega arith
longest_words (suc zero) = omega arith
longest_words (suc (suc i)) =
    let z : get_or (0 ∷ 0 ∷ 0 ∷ 0 ∷ 0 ∷ 0 ∷ []) i 0 ≡ 0 = zeros 6 i in
    omega (arith, z)
  where
    zeros : (n i : ℕ) → ◌≡◌ {A = ℕ} (get_or (replicate n 0) i 0) 0
    zeros zero i = refl
    zeros (suc n) zero = refl
    zeros (suc n) (suc i) = zeros n i

pub hypotheses_met : HypothesesMet
unfolding cycles
hypotheses_met =
    record {
      small = omega arith;
      longest = longest_words;
      one = refl;
      alike = record { kind = refl; next = refl; used = (refl, (refl, (refl, (refl, tt)))) };
    }
