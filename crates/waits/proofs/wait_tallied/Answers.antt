-- Each turn of the loop is one more poll of the wait.
use mathlib.Core.Path.{refl, ◌∙◌}
use native.Mathlib.Omega.{arith}
use Rattle.std.proofs.lemmas.Result.{err_from_is_err_and}
use Rattle.waits.proofs.Polling.{polling_starts, polling_stops, polling_ready, polling_again, polling_late}
use Rattle.waits.proofs.wait_tallied.Goals as goal

pub loop-word-init : goal.loop-word-init
loop-word-init c = polling_starts _ _ _ c.requires

pub returns-in_err-word : goal.returns-in_err-word
returns-in_err-word c =
    let p = err_from_is_err_and c.from_residual.result c.from_residual.ensures.1 in
    rw (p.1, p.2) (polling_stops c.loop-word.invariant c.polled.ensures c.in_err-word.ensures)

pub counted-requires-clause-polls_bound : goal.counted-requires-clause-polls_bound
counted-requires-clause-polls_bound c = let q = c.in_ok-word.ensures in
    omega (arith, q.rises refl, c.loop-word.invariant.sound)

pub returns-then-unready-limit : goal.returns-then-unready-limit
returns-then-unready-limit c =
    polling_late c.loop-word.invariant c.polled.ensures c.in_ok-word.ensures c.counted.ensures c.is_ready-ready.ensures
    c.if-ready.false
    (c.if-unready-limit.true ∙ c.get-limit.ensures.value)

pub loop-word-preserved : goal.loop-word-preserved
loop-word-preserved c =
    let on = c.loop-word.invariant in
    polling_again on c.polled.ensures c.in_ok-word.ensures c.counted.ensures c.is_ready-ready.ensures c.if-ready.false
    (omega (arith, on.below, c.if-unready-limit.false, c.get-limit.ensures.value))

pub returns : goal.returns
returns c =
    polling_ready c.loop-word.invariant c.polled.ensures c.in_ok-word.ensures c.counted.ensures c.is_ready-ready.ensures
    c.if-ready.true
    c.count_of-count.ensures
