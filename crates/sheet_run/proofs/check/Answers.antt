use mathlib.Core.Path.{sym, ◌∙◌}
use Rattle.std.proofs.lemmas.Result.{err_from_is_err_and}
use Rattle.sheet_run.proofs.Sheets.{heads, has_room, fills_it, read_records, fault_13}
use Rattle.sheet_run.proofs.Sheets.{fault_read, answers_fault, answers_header}
use Rattle.sheet_run.proofs.check.Goals as goal

pub returns-in_err-h : goal.returns-in_err-h
returns-in_err-h c =
    let p = err_from_is_err_and c.from_residual.result c.from_residual.ensures.1 in
    rw (p.1, p.2) (answers_fault c.args.bytes.now (sym (fault_13 c.args.bytes.now c.in_err-h.ensures.value)))

pub slice_bounds-records-end : goal.slice_bounds-records-end
slice_bounds-records-end c = has_room (heads _ _ c.in_ok-h.ensures.opens)

pub fill-requires : goal.fill-requires
fill-requires c = fills_it (heads _ _ c.in_ok-h.ensures.opens)

pub returns-in-Ok : goal.returns-in-Ok
returns-in-Ok c =
    let bs = c.args.bytes.now in
    let d = heads bs _ c.in_ok-h.ensures.opens in
    answers_header bs _ d
    ((rw c.request.ensures at c.in-Ok.ensures.is) ∙ sym (fault_read bs _ d (read_records d c.fill.ensures)))

pub returns-in-Err : goal.returns-in-Err
returns-in-Err c =
    let bs = c.args.bytes.now in
    let d = heads bs _ c.in_ok-h.ensures.opens in
    answers_fault bs
    ((rw c.request.ensures at c.in-Err.ensures.is) ∙ sym (fault_read bs _ d (read_records d c.fill.ensures)))
