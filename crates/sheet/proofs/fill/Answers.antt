use native.Mathlib.Omega.{arith}
use Rattle.sheet.proofs.OpenLaws.{word_in, filled_more}
use Rattle.sheet.proofs.fill.Goals as goal

pub loop-i-preserved : goal.loop-i-preserved
loop-i-preserved c =
    let bs = c.args.bytes.now in
    let i = c.loop-i.i in
    let w = word_in bs c.as_chunks.ensures.front i (omega arith) c.from_le_bytes.ensures in
    rw (c.loop-i.invariant, w) (filled_more bs c.args.out.now i c.loop-i-test.true)
