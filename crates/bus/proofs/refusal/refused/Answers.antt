use native.Mathlib.Omega.{arith}
use mathlib.Core.Path.{◌≡◌}
use borrow.Author.Tests.{eq-eqb, ne_eqb, lt-ltb, le-ltb}
use Rattle.bus.specs.Calls.{too_long, refusal}
use Rattle.bus.proofs.refusal.refused.Goals as goal

pub returns-in_default : goal.returns-in_default
unfolding refusal too_long
returns-in_default c = let z : c.args.limit ≡ 0 = c.in_default.ensures in record { is = simp (eq-eqb _ _ z); limited = tt }

pub returns-then-first-gt-MAX_LENGTH : goal.returns-then-first-gt-MAX_LENGTH
unfolding refusal too_long
returns-then-first-gt-MAX_LENGTH c =
    let e = c.in-Some.ensures in
    let p = c.in-Some.limit.ok in
    let n : c.args.limit ≡ 0 → ⊥ = λ z. omega (arith, e, p, z) in
    record { is = simp (ne_eqb _ _ n, lt-ltb _ _ c.if-first-gt-MAX_LENGTH.true); limited = tt }

pub returns-then-second-gt-MAX_LENGTH : goal.returns-then-second-gt-MAX_LENGTH
unfolding refusal too_long
returns-then-second-gt-MAX_LENGTH c =
    let e = c.in-Some.ensures in
    let p = c.in-Some.limit.ok in
    let n : c.args.limit ≡ 0 → ⊥ = λ z. omega (arith, e, p, z) in
    record {
      is = simp (ne_eqb _ _ n, le-ltb _ _ c.if-first-gt-MAX_LENGTH.false, lt-ltb _ _ c.if-second-gt-MAX_LENGTH.true);
      limited = tt;
    }

pub returns : goal.returns
unfolding refusal too_long
returns c =
    let e = c.in-Some.ensures in
    let p = c.in-Some.limit.ok in
    let n : c.args.limit ≡ 0 → ⊥ = λ z. omega (arith, e, p, z) in
    record { is = simp (ne_eqb _ _ n, le-ltb _ _ c.if-first-gt-MAX_LENGTH.false, le-ltb _ _ c.if-second-gt-MAX_LENGTH.false); limited = e }
