-- The cycles along a chain in which nothing is found: what has been counted, and what is counted from a record on.
use Rattle.std.proofs.Common.{◌≡◌, refl, ap, sym, ◌∙◌, ℕ, ◌/◌, ◌<◌, ◌≤◌, ◌++◌, List, [], length, Ok}
use Rattle.std.proofs.Common.{append_assoc, append-nil, arith}
use Rattle.records.specs.declared.rules.Rules.{Rules}
use Rattle.records.specs.Check.{record_at, next_of, checked, verdict, chain_of}
use Rattle.records.proofs.WalkLaws.{from, whole_empty, whole_from, fine_eight, alone, before_others}
use Rattle.core_delays.specs.Delays.{record_cycles, chain_cycles}

module _ (rules : Rules) (memory : ℕ) (ws : List ℕ) where
  -- those of the whole chain
  abbrev pub all : List ℕ
  all = chain_cycles rules (chain_of (checked rules memory ws))

  pub none_at_all : verdict (checked rules memory ws) ≡ Ok tt → length ws / 8 ≡ 0 → all ≡ []
  unfolding chain_cycles
  none_at_all fine z = rw (whole_empty rules memory ws (fine_eight rules memory ws fine) z) refl

  pub record Counted (own : ℕ) (so_far : List ℕ) : Type 0 where
    pub one : 1 ≤ own
    pub most : own ≤ length ws / 8
    pub fine : verdict (from rules memory ws own) ≡ Ok tt
    pub rest : so_far ++ chain_cycles rules (chain_of (from rules memory ws own)) ≡ all

  pub begins : verdict (checked rules memory ws) ≡ Ok tt → (length ws / 8 ≡ 0 → ⊥) → Counted 1 []
  begins fine some =
      let w = whole_from rules memory ws (fine_eight rules memory ws fine) in
      record {
        one = omega arith;
        most = omega (arith, some);
        fine = ap verdict (sym w) ∙ fine;
        rest = ap (λ c. chain_cycles rules (chain_of c)) (sym w);
      }

  -- a turn at record own, in which it was read as r
  module _ {own : ℕ} {so_far : List ℕ} (on : Counted own so_far) {r : List ℕ} (here : r ≡ record_at ws own) where
    pub ends : next_of r ≡ 0 → so_far ++ record_cycles rules r ≡ all
    unfolding chain_cycles
    ends z =
        let last = alone rules memory ws own on.one on.most on.fine (rw here at z) in
        rw here (ap (so_far ++◌) (sym (append-nil (record_cycles rules (record_at ws own)))))
        ∙ (rw last at on.rest)

    pub goes_on : (next_of r ≡ 0 → ⊥) → (own < next_of r) × Counted (next_of r) (so_far ++ record_cycles rules r)
    unfolding chain_cycles
    goes_on more =
        let others = before_others rules memory ws own on.one on.most on.fine (rw here at more) in
        let behind = chain_cycles rules (chain_of (from rules memory ws (next_of (record_at ws own)))) in
        rw here (
          others.0,
          record {
            one = omega (arith, others.0);
            most = others.1;
            fine = others.2;
            rest = append_assoc so_far (record_cycles rules (record_at ws own)) behind ∙ (rw others.3 at on.rest);
          },
        )
