use Rattle.std.proofs.Common.{rules, ap, ltb, tests, ◌∙◌}
use Rattle.std.specs.List.{list_any}
use Rattle.std.proofs.lemmas.Iterator.{YieldsList-from_slice}
use Rattle.std.proofs.lemmas.Iterator.Search.{any_from_yields_List}
use Rattle.records.specs.Kinds.{Kind}
use Rattle.records.specs.declared.kinds.Cap.{Cap}
use Rattle.records.specs.Check.{field, out_of_range}
use Rattle.records.proofs.kinds.out_of_range.Goals as goal

pub returns : goal.returns
unfolding out_of_range
returns c =
    let each = YieldsList-from_slice _ c.iter.ensures.rest in
    let above = λ (x : Cap). ltb x.most (field c.args.r.now x.field) in
    any_from_yields_List above _ _ c.any.result c.any.ensures.ran each (λ x b q k. search (rules, tests))
    ∙ ap (λ (k : Kind). list_any above k.caps) c.kind_of.ensures
