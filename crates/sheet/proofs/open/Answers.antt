use native.Mathlib.Omega.{arith}
use Rattle.sheet.proofs.SheetLaws.{Accepted}
use Rattle.sheet.proofs.OpenLaws.{refuse, accept, word_in}
use Rattle.sheet.proofs.open.Goals as goal

pub returns-then-bytes-gt65536 : goal.returns-then-bytes-gt65536
returns-then-bytes-gt65536 c = refuse _ (λ ok. omega arith)

pub returns-in_default : goal.returns-in_default
returns-in_default c = refuse _ (λ ok. omega arith)

pub returns-then-bytes-memory : goal.returns-then-bytes-memory
returns-then-bytes-memory c =
    let bs = c.args.bytes.now in
    let q = word_in bs c.as_chunks.ensures.front 2 (omega arith) c.from_le_bytes-qpi.ensures in
    let n = word_in bs c.as_chunks.ensures.front 3 (omega arith) c.from_le_bytes-records.ensures in
    let a = word_in bs c.as_chunks.ensures.front 4 (omega arith) c.from_le_bytes-answers.ensures in
    refuse _ (λ ok. omega arith)

pub returns : goal.returns
returns c =
    let bs = c.args.bytes.now in
    let l = word_in bs c.as_chunks.ensures.front 0 (omega arith) c.from_le_bytes.ensures in
    let r = word_in bs c.as_chunks.ensures.front 1 (omega arith) c.from_le_bytes-2.ensures in
    let q = word_in bs c.as_chunks.ensures.front 2 (omega arith) c.from_le_bytes-qpi.ensures in
    let n = word_in bs c.as_chunks.ensures.front 3 (omega arith) c.from_le_bytes-records.ensures in
    let a = word_in bs c.as_chunks.ensures.front 4 (omega arith) c.from_le_bytes-answers.ensures in
    let ok : Accepted bs = omega arith in
    rw (l, r, q, n, a) (accept bs ok)
