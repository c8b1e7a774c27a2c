use mathlib.Core.Path.{sym, ◌∙◌}
use Rattle.sheet_run.proofs.Sheets.{heads, has_room, fills_it, read_records}
use Rattle.sheet_run.proofs.Sheets.{passes, has_limit, may_run, limit_is, runs_with}
use Rattle.sheet_run.proofs.run_with.Goals as goal

pub unwrap-h-requires : goal.unwrap-h-requires
unwrap-h-requires c = rw c.open.ensures (passes c.args.bytes.now c.requires)

pub unwrap-limit-requires : goal.unwrap-limit-requires
unwrap-limit-requires c =
    let d = heads _ _ (sym c.open.ensures ∙ c.unwrap-h.ensures) in
    has_limit c.args.bytes.now _ d c.requires _ c.new.ensures

pub slice_bounds-records-end : goal.slice_bounds-records-end
slice_bounds-records-end c = has_room (heads _ _ (sym c.open.ensures ∙ c.unwrap-h.ensures))

pub fill-requires : goal.fill-requires
fill-requires c = fills_it (heads _ _ (sym c.open.ensures ∙ c.unwrap-h.ensures))

pub run-requires : goal.run-requires
run-requires c =
    let d = heads _ _ (sym c.open.ensures ∙ c.unwrap-h.ensures) in
    rw (limit_is c.new.ensures c.unwrap-limit.ensures, c.request-request.ensures)
    (may_run c.args.bytes.now _ d c.requires (read_records d c.fill.ensures))

pub returns : goal.returns
returns c =
    let d = heads _ _ (sym c.open.ensures ∙ c.unwrap-h.ensures) in
    runs_with c.args.bytes.now _ d (read_records d c.fill.ensures)
    (rw (limit_is c.new.ensures c.unwrap-limit.ensures, c.request-request.ensures) at c.run.ensures)
