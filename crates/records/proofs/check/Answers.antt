use Rattle.std.proofs.Common.{rules, ◌≡◌, ℕ, true, Result, Ok, Err, is_ok, MatchResult, sym, ap, refl, ◌∙◌, arith}
use Rattle.std.proofs.lemmas.Bool.{ne_eqb}
use Rattle.std.proofs.lemmas.Result.{err_from_is_err_and, MatchResult-weaker}
use Rattle.config.specs.declared.error.QspiError.{QspiError}
use Rattle.records.specs.declared.Fault.{Fault}
use Rattle.records.specs.Check.{fault, checked, verdict}
use Rattle.records.proofs.WalkLaws.{whole_empty, whole_from, turn_stops, turn_ends, turn_goes_on}
use Rattle.records.proofs.check.Goals as goal

fine : (r : Result (Unit {0}) QspiError) → true ≡ is_ok r → r ≡ Ok tt
fine (Ok done) e = refl
fine (Err e) h = cc

-- an error that was given its record
faulted : (r : Result (Unit {0}) QspiError) (d : Fault) (own : ℕ)
    → MatchResult r (λ x. ◌≡◌ {A = Result (Unit {0}) Fault} (Err d) (Ok x)) (λ e. d ≡ fault e own)
    → (e : QspiError) × (r ≡ Err e) × (d ≡ fault e own)
faulted (Ok done) d own h = cc
faulted (Err e) d own h = (e, refl, h)

pub returns-then-words-ne0 : goal.returns-then-words-ne0
unfolding checked
returns-then-words-ne0 c = simp (ne_eqb _ _ c.if-words-ne0.true)

pub returns-then-count-eq0 : goal.returns-then-count-eq0
returns-then-count-eq0 c = ap verdict (sym (whole_empty _ _ _ c.if-words-ne0.false c.if-count-eq0.true))

pub loop-next-init : goal.loop-next-init
loop-next-init c =
    record { one = search rules; most = omega arith; rest = ap verdict (sym (whole_from _ _ _ c.if-words-ne0.false)) }

pub returns-in_err-map_err : goal.returns-in_err-map_err
returns-in_err-map_err c =
    let at = c.loop-next in
    let p = err_from_is_err_and c.from_residual.result c.from_residual.ensures.1 in
    let g = faulted c.record_fault.result c.in_err-map_err.field-0.0 at.own
    (MatchResult-weaker c.record_fault.result c.in_err-map_err.ensures.cases (λ x h. h) (λ e h. search rules)) in
    let error = g.0 in
    let f : c.record_fault.result ≡ Err error = g.1 in
    let read = c.record_at-r.ensures in
    let stops = turn_stops _ _ _ _ at.invariant.one at.invariant.most _ read error (sym c.record_fault.ensures ∙ f) in
    rw (p.1, p.2, g.2, ← stops) at.invariant.rest

pub returns-then-next-eq0 : goal.returns-then-next-eq0
returns-then-next-eq0 c =
    let at = c.loop-next in
    let f = sym c.record_fault.ensures ∙ fine _ c.in_ok-map_err.ensures.variant in
    let ends = turn_ends _ _ _ _ at.invariant.one at.invariant.most _ c.record_at-r.ensures f c.if-next-eq0.true in
    sym ends ∙ at.invariant.rest

pub loop-next-smaller : goal.loop-next-smaller
loop-next-smaller c =
    let at = c.loop-next in
    let f = sym c.record_fault.ensures ∙ fine _ c.in_ok-map_err.ensures.variant in
    let on = turn_goes_on _ _ _ _ at.invariant.one at.invariant.most _ c.record_at-r.ensures f c.if-next-eq0.false in
    omega (arith, on.0, on.1)

pub loop-next-preserved : goal.loop-next-preserved
loop-next-preserved c =
    let at = c.loop-next in
    let f = sym c.record_fault.ensures ∙ fine _ c.in_ok-map_err.ensures.variant in
    let on = turn_goes_on _ _ _ _ at.invariant.one at.invariant.most _ c.record_at-r.ensures f c.if-next-eq0.false in
    record { one = omega (arith, on.0); most = on.1; rest = on.2 ∙ at.invariant.rest }
