use mathlib.Core.Path.{sym, ◌∙◌}
use native.Mathlib.Omega.{arith}
use Rattle.chain.proofs.Entry.{none_first, some_first}
use Rattle.chain.proofs.check.Goals as goal

pub returns-in_default : goal.returns-in_default
returns-in_default c = record { is = sym (none_first _ c.in_default.ensures); limited = tt }

pub returns-in-Ok : goal.returns-in-Ok
returns-in-Ok c =
    let e = c.in-Some.ensures in
    let p = c.in-Some.limit.ok in
    record { is = c.in-Ok.ensures ∙ sym (some_first _ (λ z. omega (arith, e, p, z))); limited = e }

pub returns-in-Err : goal.returns-in-Err
returns-in-Err c =
    let e = c.in-Some.ensures in
    let p = c.in-Some.limit.ok in
    record { is = c.in-Err.ensures ∙ sym (some_first _ (λ z. omega (arith, e, p, z))); limited = tt }
