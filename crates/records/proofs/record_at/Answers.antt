use Rattle.std.proofs.Common.{arith, ◌<◌, ◌-◌, ◌/◌, length}
use Rattle.records.specs.Check.{record_at}
use Rattle.records.proofs.KindLaws.{chunk_at}
use Rattle.records.proofs.record_at.Goals as goal

pub returns : goal.returns
unfolding record_at
returns c =
    let a = c.args in
    let h : a.own - 1 < length a.words.now / 8 = omega arith in
    rw c.as_chunks.ensures.front (chunk_at (a.own - 1) (length a.words.now / 8) a.words.now h)
