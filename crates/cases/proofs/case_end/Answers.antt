use Rattle.std.proofs.Common.{◌≡◌, true, false, rules, tests}
use Rattle.std.proofs.lemmas.Iterator.{first_from_Range}
use Rattle.cases.specs.Ends.{ends_at}
use Rattle.cases.proofs.Laws.{end_found, end_bounds}
use Rattle.cases.proofs.case_end.Goals as goal

pub returns-clause-value : goal.returns-clause-value
returns-clause-value c = let text = c.args.text.now in
    end_found text c.args.from c.find.result
    (first_from_Range _ _ _ _ (λ i. ends_at text i ≡ true) (λ i. ends_at text i ≡ false)
    c.find.ensures.ran (λ x q k. search (rules, tests)) (λ x q k. search (rules, tests)))

pub returns-clause-bounds : goal.returns-clause-bounds
returns-clause-bounds c = let text = c.args.text.now in
    end_bounds text c.args.from c.find.result
    (first_from_Range _ _ _ _ (λ i. ends_at text i ≡ true) (λ i. ends_at text i ≡ false)
    c.find.ensures.ran (λ x q k. search (rules, tests)) (λ x q k. search (rules, tests)))
