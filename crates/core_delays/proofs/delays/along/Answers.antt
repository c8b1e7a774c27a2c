use Rattle.std.proofs.Common.{◌∙◌, sym, arith}
use Rattle.core_delays.proofs.Along.{none_at_all, begins, ends, goes_on}
use Rattle.core_delays.proofs.delays.along.Goals as goal

pub returns-then-words-eq0 : goal.returns-then-words-eq0
returns-then-words-eq0 c =
    c.new-cycles.ensures.items ∙ sym (none_at_all c.args.rules c.args.memory _ c.requires c.if-words-eq0.true)

pub loop-cycles-init : goal.loop-cycles-init
loop-cycles-init c =
    rw c.new-cycles.ensures.items (begins c.args.rules c.args.memory _ c.requires c.if-words-eq0.false)

pub returns-then-next-eq0 : goal.returns-then-next-eq0
returns-then-next-eq0 c =
    c.in_ok-push_record.ensures
    ∙ ends c.args.rules c.args.memory _ c.loop-cycles.invariant c.record_at-r.ensures c.if-next-eq0.true

pub loop-cycles-smaller : goal.loop-cycles-smaller
loop-cycles-smaller c =
    let on =
    goes_on c.args.rules c.args.memory _ c.loop-cycles.invariant c.record_at-r.ensures c.if-next-eq0.false in
    omega (arith, on.0, on.1.most)

pub loop-cycles-preserved : goal.loop-cycles-preserved
loop-cycles-preserved c =
    rw c.in_ok-push_record.ensures
    (goes_on c.args.rules c.args.memory _ c.loop-cycles.invariant c.record_at-r.ensures
    c.if-next-eq0.false).1
