use Rattle.std.proofs.Common.{rules, tests}
use Rattle.std.proofs.lemmas.Iterator.Splits.{YieldsList-from_slice_split}
use Rattle.std.proofs.lemmas.Iterator.Search.{any_from_yields_List}
use Rattle.verdicts.specs.Refused.{oracles_own, has_own, is_line_end}
use Rattle.verdicts.proofs.has_oracles_own_line.Goals as goal

pub returns : goal.returns
unfolding has_own
returns c =
    any_from_yields_List oracles_own _ _ _ c.any.ensures.ran
    (YieldsList-from_slice_split _ is_line_end c.args.answer.now
    c.split.ensures.rest c.split.ensures.done c.split.ensures.closure
    (λ x b q k. search (rules, tests)))
    (λ x b q k. search (rules, tests))
