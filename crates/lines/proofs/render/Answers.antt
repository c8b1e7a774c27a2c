use Prim.Native.Nat.{ℕ}
use mathlib.Core.Path.{◌≡◌}
use mathlib.Core.List.{List}
use native.Mathlib.Omega.{arith}
use borrow.Author.Rules.{rules}
use lib.ListN.{length-take}
use Rattle.lines.proofs.TextLaws.{puts_then, puts_end, wrote_long, lines_more, line_long, entry_at}
use Rattle.lines.proofs.render.Goals as goal

pub put_entry-requires : goal.put_entry-requires
put_entry-requires c = omega (arith, wrote_long c.loop-head.invariant.put.wrote, length-take {A = List ℕ})

pub loop-head-preserved : goal.loop-head-preserved
loop-head-preserved c =
    let log = c.args.log.now in
    let i = c.loop-head.head-index in
    let ps = c.as_chunks.ensures in
    let e = entry_at c.args.end.entries i log ps.front ps.front_len c.loop-head-test.true in
    let p = rw e at c.put_entry.ensures in
    record {
      len = omega (arith, p.wrote.place, line_long);
      put = rw (lines_more i log (omega (arith, length-take {A = List ℕ}))) (puts_then c.loop-head.invariant.put p);
    }

pub put_end-requires : goal.put_end-requires
put_end-requires c = omega (arith, wrote_long c.loop-head.invariant.put.wrote, length-take {A = List ℕ})

pub returns : goal.returns
returns c =
    let i : c.loop-head.head-index ≡ c.args.end.entries = omega (arith, length-take {A = List ℕ}) in
    let entries = rw i at c.loop-head.invariant.put in
    let all = puts_then entries c.put_end.ensures in
    search (rules, puts_end)
