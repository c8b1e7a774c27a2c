use Rattle.std.proofs.Common.{rules, sym, ◌∙◌}
use native.Mathlib.Omega.{arith}
use Rattle.std.proofs.lemmas.Result.{err_from_is_err_and}
use Rattle.std.proofs.lemmas.Option.{same_Some}
use Rattle.chain.specs.Of.{request_of}
use Rattle.chain.proofs.Running.{none_on, starts_on, made_on, stops_on, ends_on, less_on, goes_further}
use Rattle.chain.proofs.run_chain.Goals as goal

pub returns-then-words-eq0 : goal.returns-then-words-eq0
returns-then-words-eq0 c =
    none_on (request_of c.args.request) _ _ c.requires c.if-words-eq0.true

pub loop-next-init : goal.loop-next-init
loop-next-init c =
    starts_on (request_of c.args.request) _ _ c.requires (omega (arith, c.if-words-eq0.false))

pub unwrap-record-requires : goal.unwrap-record-requires
unwrap-record-requires c =
    let s = made_on (request_of c.args.request) c.loop-next.invariant c.record_at-r.ensures in
    rw (c.of.ensures, s.1) (search rules)

pub run_record-requires : goal.run_record-requires
run_record-requires c =
    let s = made_on (request_of c.args.request) c.loop-next.invariant c.record_at-r.ensures in
    rw (same_Some _ _ (sym c.unwrap-record.ensures ∙ c.of.ensures ∙ s.1)) s.2

pub returns-in_err-run_record : goal.returns-in_err-run_record
returns-in_err-run_record c =
    let p = err_from_is_err_and c.from_residual.result c.from_residual.ensures.1 in
    rw (p.1, p.2)
    (stops_on (request_of c.args.request) c.loop-next.invariant c.record_at-r.ensures
    (sym c.of.ensures ∙ c.unwrap-record.ensures)
    c.in_err-run_record.ensures)

pub returns-then-next-eq0 : goal.returns-then-next-eq0
returns-then-next-eq0 c =
    ends_on (request_of c.args.request) c.loop-next.invariant c.record_at-r.ensures
    (sym c.of.ensures ∙ c.unwrap-record.ensures)
    c.in_ok-run_record.ensures c.if-next-eq0.true

pub loop-next-smaller : goal.loop-next-smaller
loop-next-smaller c =
    less_on (request_of c.args.request) c.loop-next.invariant c.record_at-r.ensures
    (sym c.of.ensures ∙ c.unwrap-record.ensures)
    c.in_ok-run_record.ensures c.if-next-eq0.false

pub loop-next-preserved : goal.loop-next-preserved
loop-next-preserved c =
    goes_further (request_of c.args.request) c.loop-next.invariant c.record_at-r.ensures
    (sym c.of.ensures ∙ c.unwrap-record.ensures)
    c.in_ok-run_record.ensures c.if-next-eq0.false c.run_record.auto.memory
