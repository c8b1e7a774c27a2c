use Rattle.std.proofs.Common.{sym, ◌∙◌, arith}
use Rattle.cases.proofs.Laws.{step_none, step_above, step_over, step_sum}
use Rattle.cases.proofs.longer.Goals as goal

pub returns-in_err-d : goal.returns-in_err-d
returns-in_err-d c = c.from_residual.ensures ∙ sym (step_none _ _ _ (sym c.digit.ensures ∙ c.in_err-d.was))

pub returns-then-d-base : goal.returns-then-d-base
returns-then-d-base c = sym (step_above _ _ _ _ (sym c.digit.ensures ∙ c.in_ok-d.was) c.if-d-base.true)

pub returns-in_err-checked_mul : goal.returns-in_err-checked_mul
returns-in_err-checked_mul c = c.from_residual-in_err-checked_mul.ensures
    ∙ sym (step_over _ _ _ _ (sym c.digit.ensures ∙ c.in_ok-d.was) c.if-d-base.false
    (omega (arith, c.in_err-checked_mul.ensures)))

pub returns : goal.returns
returns c =
    step_sum _ _ _ _ (sym c.digit.ensures ∙ c.in_ok-d.was) c.if-d-base.false
    _ c.in_ok-checked_mul.ensures.1 _ c.checked_add.ensures
