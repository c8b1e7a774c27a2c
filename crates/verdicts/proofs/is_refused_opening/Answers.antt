use Rattle.std.proofs.Common.{sym, ◌∙◌, ◌++◌}
use Rattle.verdicts.specs.Refused.{end_word, zeros, no_rate}
use Rattle.verdicts.proofs.Starts.{begins_otherwise, begins_so}
use Rattle.verdicts.proofs.is_refused_opening.Goals as goal

pub returns-in_default-strip_prefix : goal.returns-in_default-strip_prefix
returns-in_default-strip_prefix c = let digits = c.args.digits.now in let on = c.in-Some in let e = on.ensures.cases in
    sym (begins_so c.args.answer.now end_word (digits ++ (zeros ++ no_rate)) on.rest.now e.0 e.1
    ∙ begins_otherwise on.rest.now digits (zeros ++ no_rate) c.in_default-strip_prefix.ensures.cases)

pub returns : goal.returns
returns c = let digits = c.args.digits.now in let on = c.in-Some in let e = on.ensures.cases in
    let last = c.in-Some-strip_prefix in let f = last.ensures.cases in
    (rw c.as_slice.ensures at c.eq.ensures)
    ∙ sym (begins_so c.args.answer.now end_word (digits ++ (zeros ++ no_rate)) on.rest.now e.0 e.1
    ∙ begins_so on.rest.now digits (zeros ++ no_rate) last.rest.now f.0 f.1)
