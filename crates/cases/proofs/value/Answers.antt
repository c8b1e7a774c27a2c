use Rattle.std.proofs.Common.{sym, ◌∙◌, arith}
use Rattle.cases.proofs.Laws.{value_stops, value_next, value_end}
use Rattle.cases.proofs.value.Goals as goal

pub returns-in_err-value : goal.returns-in_err-value
returns-in_err-value c = c.from_residual.ensures
    ∙ sym (value_stops _ _ _ _ c.loop-b-test.true (sym c.longer.ensures ∙ c.in_err-value.was)) ∙ c.loop-b.invariant

pub loop-b-preserved : goal.loop-b-preserved
loop-b-preserved c =
    sym (value_next _ _ _ _ _ c.loop-b-test.true (sym c.longer.ensures ∙ c.in_ok-value.was)) ∙ c.loop-b.invariant

pub returns : goal.returns
returns c =
    sym (value_end c.args.base c.loop-b.value c.args.digits.now c.loop-b.b-index (omega arith)) ∙ c.loop-b.invariant
