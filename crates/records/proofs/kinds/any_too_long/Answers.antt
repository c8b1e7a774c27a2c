use Rattle.std.proofs.Common.{rules, tests, ◌∙◌}
use Rattle.std.proofs.lemmas.Iterator.{YieldsList-from_slice}
use Rattle.std.proofs.lemmas.Iterator.Search.{any_from_yields_List}
use Rattle.records.specs.Check.{extent_in, too_long}
use Rattle.records.proofs.Table.{any_extent}
use Rattle.records.proofs.kinds.any_too_long.Goals as goal

pub returns : goal.returns
returns c =
    let r = c.args.r.now in
    let each = YieldsList-from_slice _ c.iter.ensures.rest in
    any_from_yields_List (λ w. too_long (extent_in r w)) _ _ c.any.result c.any.ensures.ran each
    (λ x b q k. search (rules, tests))
    ∙ any_extent too_long r c.kind_of.result.now c.kind_of.ensures
