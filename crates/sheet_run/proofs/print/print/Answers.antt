use Prim.Native.Nat.{ℕ}
use native.Mathlib.Omega.{arith}
use lib.ListN.{length-replicate}
use Rattle.sheet_run.proofs.Entries.{prints_fit, prints}
use Rattle.sheet_run.proofs.print.print.Goals as goal

pub render-len-requires : goal.render-len-requires
render-len-requires c = let fit = prints_fit _ c.run-ended.ensures in
    record {
      entries_in_bounds = omega (arith, fit, c.run-ended.auto.log, length-replicate {A = ℕ} 8192 0);
      entries_in_bounds_2 = omega (arith, fit, length-replicate {A = ℕ} 65664 0);
    }

pub invariant_of-result : goal.invariant_of-result
invariant_of-result c = (prints _ c.run-ended.ensures c.render-len.ensures).0

pub returns : goal.returns
returns c = (prints _ c.run-ended.ensures c.render-len.ensures).1
