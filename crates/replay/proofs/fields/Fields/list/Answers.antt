use Rattle.std.proofs.Common.{sym, ◌∙◌, eqb-true, false-eqb}
use Rattle.replay.proofs.Ends.{not_ok, ends_short, ends_with, ends_before}
use Rattle.replay.proofs.fields.Fields.list.Goals as goal

pub returns-in_err-words-clause-variant : goal.returns-in_err-words-clause-variant
returns-in_err-words-clause-variant c =
    not_ok _ c.from_residual.ensures.0 ∙ sym (ends_short _ c.in_err-words.ensures.err)

pub returns-in_err-end-clause-variant : goal.returns-in_err-end-clause-variant
returns-in_err-end-clause-variant c = not_ok _ c.from_residual-in_err-end.ensures.0
    ∙ sym (ends_before _ _ _ c.in_ok-words.ensures.ok (false-eqb _ _ c.in_err-end.ensures))

pub returns-clause-variant : goal.returns-clause-variant
returns-clause-variant c = sym (ends_with _ _ _ c.in_ok-words.ensures.ok (eqb-true _ _ (sym c.in_ok-end.ensures)))
