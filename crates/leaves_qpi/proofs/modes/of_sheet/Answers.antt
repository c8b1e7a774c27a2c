use Rattle.std.proofs.Common.{◌∙◌, sym, ap, ◌≡◌, ◌++◌, append_assoc, append-nil, arith, List, Bool, ◌-◌, ◌/◌}
use Rattle.std.proofs.Common.{◌+◌, length}
use Rattle.leaves_qpi.specs.Modes.{record_word, record_modes, first_record, modes_along}
use Rattle.leaves_qpi.proofs.Along.{passed, met, behind}
use Rattle.leaves_qpi.proofs.modes.of_sheet.Goals as goal

pub loop-before-init : goal.loop-before-init
loop-before-init c =
    let numbers = c.args.numbers.now in
    let all : length numbers / 32 + 1 - 0 ≡ length numbers / 32 + 1 = omega arith in
    rw (c.new-modes.ensures.items, c.first_record-on.ensures) (ap (modes_along numbers (first_record numbers) 0) all)

pub loop-before-preserved-then-on-before : goal.loop-before-preserved-then-on-before
loop-before-preserved-then-on-before c =
    rw (← passed c.args.numbers.now c.loop-before.on c.loop-before.before _ c.loop-before-test.true c.if-on-before.true)
    c.loop-before.invariant

pub loop-before-preserved : goal.loop-before-preserved
loop-before-preserved c =
    let numbers = c.args.numbers.now in
    let before = c.loop-before.before in
    let left = length numbers / 32 + 1 - (before + 1) in
    let after = modes_along numbers (record_word numbers before 7) (before + 1) left in
    rw (c.in_ok-push_record.ensures, c.record_word-on.ensures)
    (append_assoc c.loop-before.modes.items (record_modes numbers before) after
    ∙ ap (λ (bs : List Bool). c.loop-before.modes.items ++ bs)
    (sym (met numbers c.loop-before.on before _ c.loop-before-test.true c.if-on-before.false))
    ∙ c.loop-before.invariant)

pub returns : goal.returns
returns c =
    sym (append-nil _)
    ∙ ap (λ (bs : List Bool). c.loop-before.modes.items ++ bs)
    (sym (behind c.args.numbers.now c.loop-before.on c.loop-before.before _ (omega arith)))
    ∙ c.loop-before.invariant
