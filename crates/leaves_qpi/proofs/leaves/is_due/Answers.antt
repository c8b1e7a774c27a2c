use Rattle.std.proofs.Common.{ℕ, ◌≡◌, refl, sym, ap, ◌∙◌, length, get_or, nat_eq, bytes_eq, map, rules, tests, arith}
use borrow.Author.Tests.{ne_eqb}
use Rattle.std.specs.List.{list_all, range_with_len}
use Rattle.std.proofs.lemmas.List.{length-map}
use Rattle.std.proofs.lemmas.List.FromFn.{length-range_with_len}
use Rattle.std.proofs.lemmas.Iterator.{YieldsList-from_range}
use Rattle.std.proofs.lemmas.Iterator.Search.{all_from_yields_List}
use Rattle.leaves_qpi.specs.Leaves.{due_byte, due}
use Rattle.leaves_qpi.proofs.Due.{by_place, other_length}
use Rattle.leaves_qpi.proofs.leaves.is_due.Goals as goal

pub returns-then-library-oracle : goal.returns-then-library-oracle
returns-then-library-oracle c =
    let modes = c.args.modes.now in
    let oracle = c.args.oracle.now in
    let library = c.args.library.now in
    let same = λ (i : ℕ). nat_eq (due_byte modes oracle i) (get_or library i 0) in
    let here : c.all.result ≡ list_all same (range_with_len 0 (length oracle))
    = all_from_yields_List same _ _ c.all.result c.all.ensures.ran
    (YieldsList-from_range 0 (length oracle) (length oracle) refl (omega arith)) (λ x b q k. search (rules, tests)) in
    here
    ∙ ap (λ n. list_all same (range_with_len 0 n)) (sym c.if-library-oracle.true)
    ∙ by_place (due_byte modes oracle) library 0 library refl
    ∙ ap (λ n. bytes_eq (map (due_byte modes oracle) (range_with_len 0 n)) library) c.if-library-oracle.true

pub returns-else-library-oracle : goal.returns-else-library-oracle
returns-else-library-oracle c =
    let modes = c.args.modes.now in
    let oracle = c.args.oracle.now in
    let library = c.args.library.now in
    let long : length (due modes oracle) ≡ length oracle
    = length-map _ _ ∙ length-range_with_len 0 (length oracle) in
    ne_eqb _ _ c.if-library-oracle.false
    ∙ sym (other_length (due modes oracle) library (λ e. c.if-library-oracle.false (sym e ∙ long)))
