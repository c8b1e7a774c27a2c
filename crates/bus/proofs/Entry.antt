-- The calls: stopped, or run from a progress on; and as a user makes them, from no entry and the first answer on.
use mathlib.Core.Path.{◌≡◌, refl, sym, ap, ◌∙◌}
use mathlib.Core.Bool.{Bool, true, false, cond}
use mathlib.Core.List.{List, [], ◌∷◌}
use Prim.Native.Nat.{ℕ, ◌^◌, ◌≤◌, ◌<◌}
use native.Mathlib.Omega.{arith}
use lib.Dec.{eqb, ltb}
use borrow.Author.Tests.{eqb-true, eqb-false, ltb-false}
use Rattle.std.proofs.Common.{Bor, MutBor}
use Rattle.std.specs.Prelude.{Result, Ok, Err}
use Rattle.std.specs.declared.num.NonZeroU32.{NonZeroU32}
use Rattle.model.specs.State.{with_number, advance}
use Rattle.model.proofs.From.{from_runs, from_stops}
use Rattle.config.specs.declared.error.QspiError.{QspiError}
use Rattle.access.specs.declared.progress.Progress.{Progress}
use Rattle.access.specs.declared.block.RegisterBlock.{RegisterBlock}
use Rattle.access.specs.Of.{state_of, number_in, begun, with_ended, Refuses}
use Rattle.access.specs.Does.{Sound}
use Rattle.access.specs.Makes.{Resumed, progress_of}
use Rattle.access.specs.Goes.{Goes, GoesOn}
use Rattle.config.proofs.Laws.{not_done}
use Rattle.access.proofs.Goes.{begun_runs, goes_on}
use Rattle.bus.specs.Calls.{Call, steps_of, lengths_of, too_long, refusal, outcome_from}
use Rattle.bus.specs.Does.{Called, CalledOn, CalledFrom, CalledOnFrom, ended_or}
use Rattle.bus.proofs.From.{call_from_begun}

-- What is not refused has a limit above 0 and lengths that fit.
pub accepted : {limit first second n : ℕ} → n ≡ refusal limit (first ∷ second ∷ []) → n ≡ 0
    → (0 < limit) × (first < 2 ^ 24) × (second < 2 ^ 24)
unfolding refusal too_long
accepted {limit} {first} {second} r z =
    by (eqb limit 0) (ltb 0xFFFFFF first) (ltb 0xFFFFFF second) refl refl refl (sym r ∙ z)
  where
    by : (a b c : Bool) → eqb limit 0 ≡ a → ltb 0xFFFFFF first ≡ b → ltb 0xFFFFFF second ≡ c
        → cond {A = ℕ} a 7 (cond b 6 (cond c 6 0)) ≡ 0 → (0 < limit) × (first < 2 ^ 24) × (second < 2 ^ 24)
    by true b c e f g h = absurd (omega (arith, h))
    by false true c e f g h = absurd (omega (arith, h))
    by false false true e f g h = absurd (omega (arith, h))
    by false false false e f g h =
        let i : limit ≡ 0 → ⊥ = eqb-false _ _ e in
        let j : first ≤ 0xFFFFFF = ltb-false _ _ f in
        let k : second ≤ 0xFFFFFF = ltb-false _ _ g in
        (omega arith, omega arith, omega arith)

-- What is let through had not ended, and is not refused.
passed : (a b : ℕ) → 0 ≡ cond (eqb a 0) b a → (a ≡ 0) × (b ≡ 0)
passed a b e = by (eqb a 0) refl e
  where
    by : (t : Bool) → eqb a 0 ≡ t → 0 ≡ cond t b a → (a ≡ 0) × (b ≡ 0)
    by true q h = (eqb-true _ _ q, sym h)
    by false q h = absurd (eqb-false _ _ q (sym h))

-- the lengths of a call that has its limit
pub fitting : (p : Progress) {limit first second : ℕ} {l : NonZeroU32}
    → Refuses limit (ended_or p (refusal limit (first ∷ second ∷ []))) (Ok l) → (first < 2 ^ 24) × (second < 2 ^ 24)
fitting p r = let a = accepted refl (passed (number_in p) _ r.is).1 in (a.1, a.2)

-- A call that goes on from the progress p.
module _ (call : Call) (p : Progress) {limit number : ℕ} (same : number ≡ refusal limit (lengths_of call)) where
  module _ (few : Sound p) (answers log : List ℕ) {e : QspiError} (a : Refuses limit (ended_or p number) (Err e))
      {r : Progress} (q : r ≡ with_ended (Err e) p) where
    stopped_state : (m : List ℕ) → state_of r log m ≡ outcome_from call limit answers (state_of p log m)
    unfolding outcome_from
    stopped_state m =
        let st = state_of p log m in
        ap (λ t. state_of t log m) q ∙ ap (λ n. with_number n st) a.is
        ∙ rw (← same) (sym (from_stops number (steps_of call) limit answers st (λ z. not_done e (a.is ∙ z))))

    stopped_sound : Sound r
    stopped_sound = rw q few

    pub stopped_from : CalledFrom p call limit answers log r log
    stopped_from = record { sound = stopped_sound; state = stopped_state }

    pub stopped_on_from : {m : List ℕ} → CalledOnFrom p call limit answers log m r log m
    stopped_on_from {m} = record { sound = stopped_sound; state = stopped_state m }

  -- What is not stopped has run from there on.
  module _ {l : NonZeroU32} {answers : Bor (List ℕ)} {log : MutBor (List ℕ)} {b t : RegisterBlock}
      {ended : Result (Unit {0}) QspiError} (a : Refuses limit (ended_or p number) (Ok l))
      (g : Resumed p l log answers b) {r : Progress} (q : r ≡ progress_of ended t)
      {log' : List ℕ} (f : log' ≡ t.log.now) where
    pub goes_on_from : {m m' : List ℕ} → GoesOn (steps_of call) b m t m' ended
        → CalledOnFrom p call limit answers.now log.now m r log' m'
    unfolding outcome_from
    goes_on_from {m} d =
        let st = state_of p log.now m in
        let z = passed (number_in p) number a.is in
        let runs = rw a.limited at (begun_runs g d) in
        rw (q, f)
        (record {
          sound = runs.sound;
          state =
              runs.state ∙ ap (λ n. advance (steps_of call) limit answers.now (with_number n st)) (sym z.0)
              ∙ sym (from_runs _ (steps_of call) limit answers.now st z.0 (sym same ∙ z.1));
        })

    pub goes_from : Goes (steps_of call) b t ended → CalledFrom p call limit answers.now log.now r log'
    goes_from d =
        let at_none = goes_on_from (goes_on d []) in
        record { sound = at_none.sound; state = λ m. (goes_on_from (goes_on d m)).state }

-- A call from no entry on is the call as its user sees it.
pub called_begun : {call : Call} {limit : ℕ} {answers log log' : List ℕ} {p r : Progress} → p ≡ begun
    → CalledFrom p call limit answers log r log' → Called call limit answers log r log'
called_begun {call} {limit} {answers} {log} e d =
    let d' = rw e at d in record { state = λ m. d'.state m ∙ call_from_begun call limit answers log m }

pub called_on_begun : {call : Call} {limit : ℕ} {answers log log' m m' : List ℕ} {p r : Progress} → p ≡ begun
    → CalledOnFrom p call limit answers log m r log' m' → CalledOn call limit answers log m r log' m'
called_on_begun {call} {limit} {answers} {log} {m = m} e d =
    let d' = rw e at d in record { state = d'.state ∙ call_from_begun call limit answers log m }
