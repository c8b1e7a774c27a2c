use Rattle.std.proofs.Common.{rules, tests, ◌∙◌}
use Rattle.std.proofs.lemmas.Iterator.{YieldsList-from_slice}
use Rattle.std.proofs.lemmas.Iterator.Search.{any_from_yields_List}
use Rattle.records.specs.Check.{extent_in, outside_of}
use Rattle.records.proofs.Table.{any_extent}
use Rattle.records.proofs.kinds.any_outside.Goals as goal

pub returns : goal.returns
returns c =
    let a = c.args in
    let each = YieldsList-from_slice _ c.iter.ensures.rest in
    any_from_yields_List (λ w. outside_of a.memory (extent_in a.r.now w)) _ _ c.any.result c.any.ensures.ran each
    (λ x b q k. search (rules, tests))
    ∙ any_extent (outside_of a.memory) a.r.now c.kind_of.result.now c.kind_of.ensures
