-- `clock::actual_sck` meets its contract, by cases as its definition goes. Assumes nothing.
use Prim.Native.Nat.{◌≤◌}
use borrow.Author.Rules.{rules}
use borrow.Author.Tests.{le-ltb}
use Rattle.clock.proofs.Factors.{factor_pos}
use Rattle.clock.proofs.actual_sck.Goals as goal

pub nonzero_div-result : goal.nonzero_div-result
nonzero_div-result c = rw c.factor.ensures (factor_pos _ (search rules))

pub nonzero_div-result-in-Cdr2 : goal.nonzero_div-result-in-Cdr2
nonzero_div-result-in-Cdr2 c = rw c.factor-in-Cdr2.ensures (factor_pos _ (search rules))

pub returns-in-Cdr1-2 : goal.returns-in-Cdr1-2
returns-in-Cdr1-2 c = let small : c.in-Cdr1-2.c ≤ 15 = search rules in
    simp (le-ltb _ _ c.if-mod_div-gt31.false, c.in-Cdr1-2.is, c.factor.ensures, le-ltb _ _ small)

pub returns-in-Cdr2 : goal.returns-in-Cdr2
returns-in-Cdr2 c = simp (le-ltb _ _ c.if-mod_div-gt31.false, c.in-Cdr2.is, c.factor-in-Cdr2.ensures)
