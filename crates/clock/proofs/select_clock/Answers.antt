-- `clock::select_clock` meets its contract. Both loops keep in `best` the lowest rank of the candidates passed. Assumes
-- nothing.
use mathlib.Core.Path.{◌≡◌, ◌∙◌, sym, ap}
use Prim.Native.Nat.{◌%◌, ◌≤◌, ◌<◌}
use borrow.Author.Rules.{rules}
use lib.Arith.{lt_of_le-ne}
use native.Mathlib.Nat.{add-zero}
use native.Mathlib.Omega.{arith}
use Rattle.clock.specs.Candidate.{candidate}
use Rattle.clock.specs.Rank.{lowest_by, chosen_by, lowest}
use Rattle.clock.proofs.Lowest.{settled, place_more, kind_passed, module_passed, module_scanned}
use Rattle.clock.proofs.Places.{next_ahead, less_left, within}
use Rattle.clock.proofs.Factors.{factor_pos}
use Rattle.clock.proofs.select_clock.Goals as goal
use Rattle.clock.proofs.select_clock.Goals.{then-eligible+then-place-eq-PLACES, else-eligible, then-m-eq-MODULES, else-m-eq-MODULES+then-eligible+else-place-eq-PLACES+then-best-lt-CANDIDATES}

pub modules-init : goal.modules-init
unfolding lowest_by
modules-init c = omega arith

pub places-init : goal.places-init
places-init c = (search rules, rw add-zero c.modules.invariant.1)

inside : (c : goal.Else-place-eq-PLACES) → c.places.place < 272
inside c = lt_of_le-ne c.places.invariant.0 c.if-place-eq-PLACES.false

pub factor-requires : goal.factor-requires
factor-requires c = inside c

pub nonzero_div-hz : goal.nonzero_div-hz
nonzero_div-hz c = rw c.factor.ensures (factor_pos _ (inside c.before))

pub next_place-place-requires : goal.next_place-place-requires
next_place-place-requires c = inside c.before.before.before.before

ahead : (c : goal.After-next_place-place) →
    (c.places.place < c.next_place-place.result) × (c.next_place-place.result ≤ 272)
ahead c = rw c.next_place-place.ensures (next_ahead _ _ _ (inside c.before.before.before.before.before))

pub places-smaller : goal.places-smaller
places-smaller c = less_left (ahead c).0 (ahead c).1

pub places-preserved : goal.places-preserved
places-preserved c = let eligible = sym c.eligible.ensures ∙ c.if-eligible.true in
    let divisor = c.factor.ensures in
    let ranked = c.rank_of.ensures in
    let more = place_more _ _ _ _ (inside c.before.before.before.before.before) eligible c.places.invariant.1 divisor
    ranked c.min-best.ensures in
    let passed = kind_passed _ _ _ _ (inside c.before.before.before.before.before) eligible more divisor in
    ((ahead c).1, passed c.next_place-place.ensures)

pub modules-preserved : goal.modules-preserved
modules-preserved c = (
  omega arith,
  elim c.if-eligible.branch [
    | then-eligible+then-place-eq-PLACES w ↦
        w.best-is ∙ module_scanned _ _ _ w.if-place-eq-PLACES.true w.places.invariant.1
    | else-eligible w ↦
        w.best-is ∙ module_passed _ _ _ (sym c.eligible.ensures ∙ w.if-eligible.false) c.modules.invariant.1
  ],
)

-- the outer loop is left after all modules, or at a rate that is the target
pub returns : goal.returns
unfolding chosen_by
returns c =
    let found : c.if-m-eq-MODULES.found ≡ lowest c.args.pll c.args.target 8_704 =
    elim c.if-m-eq-MODULES.branch [
      | then-m-eq-MODULES w ↦ w.found-is ∙ rw w.if-m-eq-MODULES.true at c.modules.invariant.1
      | else-m-eq-MODULES+then-eligible+else-place-eq-PLACES+then-best-lt-CANDIDATES w ↦
          let m = lt_of_le-ne c.modules.invariant.0 w.if-m-eq-MODULES.false in
          let place = lt_of_le-ne w.places.invariant.0 w.if-place-eq-PLACES.false in
          let eligible = sym w.eligible.ensures ∙ w.if-eligible.true in
          let more = place_more _ _ _ _ place eligible w.places.invariant.1 w.factor.ensures w.rank_of.ensures
          w.min-best.ensures in
          w.found-is ∙ settled _ _ _ _ (within m place) more w.if-best-lt-CANDIDATES.true
    ] in
    c.candidate_at.ensures ∙ ap (λ n. candidate (n % 8_704)) found
