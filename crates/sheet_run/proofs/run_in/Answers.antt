use mathlib.Core.Path.{◌∙◌}
use Prim.Native.Nat.{◌+◌, ◌*◌}
use native.Mathlib.Omega.{arith}
use lib.ListN.{length-replicate, replicate}
use Rattle.sheet_run.proofs.Sheets.{heads, read_words, held_front, held_behind, sheet_runs}
use Rattle.sheet_run.proofs.run_in.Goals as goal

pub whole_as_front-words : goal.whole_as_front-words
whole_as_front-words g c = (c.requires.room, omega arith)

pub returns : goal.returns
returns g c =
    let bs = c.args.bytes.now in
    let n = 8 * c.args.h.now.records in
    let a = c.args.h.now.answers in
    let room = replicate g.row.N 0 in
    let e = read_words (n + a) room bs (simp length-replicate c.requires.room) c.fill.ensures in
    sheet_runs bs c.args.h.now (heads bs _ c.requires.header) (c.split_at.ensures.front ∙ held_front n a bs e)
    (rw c.request-request.ensures at c.transact.ensures) (c.split_at.ensures.back ∙ held_behind n a bs e)
