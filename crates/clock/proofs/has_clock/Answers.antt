use Rattle.std.proofs.Common.{sym, inl, inr, arith}
use borrow.Author.Tests.{lt-ltb, le-ltb, lt-leb}
use native.Mathlib.Decide.{dec_lt}
use Rattle.clock.proofs.Clocked.{no_clock_exactly, clocked_inside}
use Rattle.clock.proofs.has_clock.Goals as goal

pub returns-then-pll-ge1 : goal.returns-then-pll-ge1
returns-then-pll-ge1 c =
    elim (dec_lt c.args.pll 3_200_000_032) [
      | yes l ↦ rw (lt-ltb _ _ l) (sym (clocked_inside _ c.if-pll-ge1.true l))
      | no g ↦ rw (le-ltb c.args.pll 3_200_000_032 (omega arith)) (sym ((no_clock_exactly _).1 (inr (omega arith))))
    ]

pub returns-else-pll-ge1 : goal.returns-else-pll-ge1
returns-else-pll-ge1 c = rw (lt-leb _ _ c.if-pll-ge1.false) (sym ((no_clock_exactly _).1 (inl (omega arith))))
