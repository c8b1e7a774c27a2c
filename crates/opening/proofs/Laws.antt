-- Demand 3 for an opening and a release, no polls, and what a refusal leaves.
use mathlib.Core.Path.{◌≡◌, refl, ap}
use mathlib.Core.Bool.{Bool, true, false, cond, not}
use mathlib.Core.Logic.{inl}
use Prim.Native.Nat.{ℕ, ◌<◌}
use native.Mathlib.Omega.{arith}
use borrow.Author.Tests.{ne_eqb}
use Rattle.model.proofs.Called.{called_refused, called_holds, others_touch_nothing}
use Rattle.model.proofs.Refusable.{another_limit_called}
use Rattle.clock.specs.Clocked.{clocked, BusRate}
use Rattle.clock.proofs.Clocked.{opening_rate}
use Rattle.opening.specs.Steps.{release_steps}
use Rattle.opening.specs.declared.Opening.{Opening}
use Rattle.opening.specs.Call.{opening_refusal, steps_of, rate_of, with_rate, opens, releases}
use Rattle.opening.specs.Laws.{opening_refusable, release_refusable, OpeningSteady, ReleaseSteady, OpeningAgain}
use Rattle.opening.specs.Laws.{ReleaseAgain, OpeningPolls, ReleasePolls, OpenedRate, OpeningRefused, OpeningUntouched}
use Rattle.opening.proofs.Polls.{opening_waits, release_waits, called_polls}

-- A test in front of others gives a number that is neither 0 nor 2: so what is 2, or passed, is so of those behind it.
module _ (n : ℕ) (more : 2 < n) where
  not_two : (b : Bool) {rest : ℕ} → (rest ≡ 2 → ⊥) → cond b n rest ≡ 2 → ⊥
  not_two true never h = omega (arith, more, h)
  not_two false never h = never h

  passed : (b : Bool) {rest rest' : ℕ} → (rest ≡ 0 → rest' ≡ 0) → cond b n rest ≡ 0 → cond b n rest' ≡ 0
  passed true on h = h
  passed false on h = on h

none_not_two : ◌≡◌ {A = ℕ} 0 2 → ⊥
none_not_two h = omega (arith, h)

pub opening_steady : OpeningSteady
unfolding opening_refusal
opening_steady o =
    record {
      accepted = λ l l' some. rw (ne_eqb l' 0 (λ z. omega (arith, z)))
          (passed 3 (omega arith) _
          (passed 4 (omega arith) _
          (passed 5 (omega arith) _ (passed 14 (omega arith) _ (passed 23 (omega arith) _ (λ h. refl))))));
      never_2 = λ l. not_two 3 (omega arith) _
          (not_two 4 (omega arith) _
          (not_two 5 (omega arith) _
          (not_two 14 (omega arith) _ (not_two 23 (omega arith) _ (not_two 7 (omega arith) _ none_not_two)))));
    }

pub release_steady : ReleaseSteady
release_steady i = record { accepted = λ l l' some z. z; never_2 = λ l z. omega (arith, z) }

pub opening_again : OpeningAgain
unfolding opens
opening_again o l l' ws more log m some x =
    let g = another_limit_called (opening_refusable o) (opening_steady o) l l' ws more log m some x in
    record { exactly = g.exactly; alike = λ h. ap (with_rate (rate_of o)) (g.alike h) }

pub release_again : ReleaseAgain
unfolding releases
release_again i = another_limit_called (release_refusable i) (release_steady i)

-- What passed the tests has a clock: the refusal would be 23 at the latest.
behind : (n : ℕ) → 2 < n → (b : Bool) {rest : ℕ} → cond b n rest ≡ 0 → rest ≡ 0
behind n more true h = absurd (omega (arith, more, h))
behind n more false h = h

has_clock : (o : Opening) (limit : ℕ) → opening_refusal o limit ≡ 0 → clocked o.clock_tree.pll_fra0 ≡ true
unfolding opening_refusal
has_clock o limit z =
    by (clocked o.clock_tree.pll_fra0) _ refl
    (behind 14 (omega arith) _ (behind 5 (omega arith) _ (behind 4 (omega arith) _ (behind 3 (omega arith) _ z))))
  where
    by : (b : Bool) (rest : ℕ) → clocked o.clock_tree.pll_fra0 ≡ b → cond (not b) 23 rest ≡ 0
        → clocked o.clock_tree.pll_fra0 ≡ true
    by true rest e h = e
    by false rest e h = absurd (omega (arith, h))

pub opened_rate : OpenedRate
unfolding opens
opened_rate o l ws log m =
    called_holds (λ st. st.number ≡ 0 → BusRate (with_rate (rate_of o) st).rate) (opening_refusal o l) (steps_of o) l ws
    log m (λ i z. absurd (i z))
    (λ r z. rw z (opening_rate o.clock_tree.pll_fra0 o.config.freq (has_clock o l r)))

pub opening_polls : OpeningPolls
unfolding opens
opening_polls o l ws log m = called_polls _ (steps_of o) l ws log m (opening_waits l o)

pub release_polls : ReleasePolls
unfolding releases
release_polls i l ws log m = called_polls 0 (release_steps i) l ws log m (release_waits l i)

pub opening_refused : OpeningRefused
unfolding opens
opening_refused o l ws log m i = rw (called_refused (steps_of o) l ws log m i, ne_eqb _ _ i) refl

pub opening_untouched : OpeningUntouched
unfolding opens
opening_untouched o l ws log m never =
    (others_touch_nothing _ (steps_of o) l ws log m never, rw (ne_eqb _ _ (λ z. never (inl z))) refl)
