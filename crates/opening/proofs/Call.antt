-- An opening refused, and an opening and a release run from no entry and the first answer on.
use mathlib.Core.Path.{◌≡◌, refl, sym, ◌∙◌}
use mathlib.Core.Bool.{Bool, true, false, cond, not}
use mathlib.Core.List.{List}
use Prim.Native.Nat.{ℕ, ◌≤◌, ◌<◌}
use native.Mathlib.Omega.{arith}
use lib.Dec.{eqb, ltb}
use borrow.Author.Tests.{ne_eqb, ltb-false}
use Rattle.std.proofs.Common.{Bor, MutBor}
use Rattle.std.specs.Prelude as std
use Rattle.std.specs.Prelude.{Ok, Err, Some, None, unwrap_or}
use Rattle.model.specs.Steps.{Steps}
use Rattle.model.specs.State as state
use Rattle.model.specs.State.{advance}
use Rattle.model.proofs.Called.{called_refused, called_runs}
use Rattle.config.specs.Spi.{supported}
use Rattle.clock.specs.declared.Choice.{Choice}
use Rattle.clock.specs.Rank.{choice}
use Rattle.clock.specs.Answer.{sck}
use Rattle.clock.specs.Dummies.{clamped}
use Rattle.config.specs.declared.error.QspiError.{QspiError}
use Rattle.access.specs.declared.progress.Progress.{Progress}
use Rattle.std.specs.declared.num.NonZeroU32.{NonZeroU32}
use Rattle.access.specs.declared.block.RegisterBlock.{RegisterBlock}
use Rattle.access.specs.Of.{state_of, number_in, begun, refused, Refuses}
use Rattle.access.specs.Does.{Works}
use Rattle.config.proofs.Laws.{not_done}
use Rattle.access.specs.Makes.{Begun, Makes, progress_of}
use Rattle.opening.specs.Steps.{opening_steps, release_steps}
use Rattle.opening.specs.declared.Opening.{Opening}
use Rattle.opening.specs.declared.Opened.{Opened}
use Rattle.opening.specs.Call.{opening_refusal, rate_of, steps_of, opens, releases}
use Rattle.opening.specs.Call.{no_polls, opened_with, Opens, Releases}

-- What is not refused is an instance up to 3.
pub accepted : (o : Opening) (limit : ℕ) {n : ℕ} → n ≡ opening_refusal o limit → n ≡ 0 → o.instance < 4
unfolding opening_refusal
accepted o limit r z =
    by (not (supported o.config.mode)) (ltb 3 o.instance) _ refl (sym r ∙ z)
  where
    by : (a b : Bool) (rest : ℕ) → ltb 3 o.instance ≡ b → cond {A = ℕ} a 3 (cond b 4 rest) ≡ 0 → o.instance < 4
    by true b rest e h = absurd (omega (arith, h))
    by false true rest e h = absurd (omega (arith, h))
    by false false rest e h = let i : o.instance ≤ 3 = ltb-false _ _ e in omega arith

-- The steps and the rate of the clock that the code has chosen.
module _ (o : Opening) {target hz : ℕ} {c : Choice} (t : target ≡ clamped o.config.freq)
    (e : c ≡ choice o.clock_tree.pll_fra0 target)
    (h : hz ≡ (sck o.clock_tree.pll_fra0 c.mod_div c.divider).hz) where
  chosen_steps : opening_steps o.instance c.mod_div c.divider hz o.clock_tree.osc_24m o.config ≡ steps_of o
  unfolding steps_of
  chosen_steps = rw (h, e, t) refl

  chosen_rate : hz ≡ rate_of o
  chosen_rate = rw (h, e, t) refl

pub refused_opens : (o : Opening) (limit : ℕ) (answers log : List ℕ) {p : Progress} {e : QspiError}
    → Refuses limit (opening_refusal o limit) (Err e) → p ≡ refused e
    → Opens o limit answers log (record { progress = p; sck_hz = None }) log
unfolding opens
refused_opens o limit answers log {e = e} i q =
    let z = not_done e in
    record {
      result = λ m. rw (← i.is, called_refused (steps_of o) limit answers log m z, q, ne_eqb _ _ z) refl;
      given = rw (q, ne_eqb _ _ z) refl;
    }

given_rate : (b : Bool) (hz : ℕ) → unwrap_or (cond b (Some hz) None) 0 ≡ cond b hz 0
given_rate true hz = refl
given_rate false hz = refl

-- What was done from no entry and the first answer on.
module _ {x : MutBor (List ℕ)} {y : Bor (List ℕ)} {b r : RegisterBlock}
    {l : NonZeroU32} (begins : Begun l x y b)
    {s : Steps} {ended : std.Result (Unit {0}) QspiError} (made : Makes s b r ended)
    {p : Progress} (q : p ≡ progress_of ended r) {log' : List ℕ} (left : r.log.now ≡ log') where
  from_begun : (limit : ℕ) (m : List ℕ) → state_of p log' m ≡ advance s limit y.now (state.begun x.now m)
  from_begun limit m =
      let tally : r.tally ≡ no_polls = made.tally ∙ begins.tally in
      rw (q, tally, ← left) (rw (
        begins.log,
        begins.entries,
        begins.answers,
      ) at (((made.works no_polls (omega arith)).does limit).state m))

  pub runs_opens : (o : Opening) (limit : ℕ) {target hz : ℕ} {c : Choice} {d : Opened}
      → Refuses limit (opening_refusal o limit) (Ok l) → target ≡ clamped o.config.freq
      → c ≡ choice o.clock_tree.pll_fra0 target → hz ≡ (sck o.clock_tree.pll_fra0 c.mod_div c.divider).hz
      → opening_steps o.instance c.mod_div c.divider hz o.clock_tree.osc_24m o.config ≡ s → d ≡ opened_with hz p
      → Opens o limit y.now x.now d log'
  unfolding opens
  runs_opens o limit i t e h k f =
      let rate = chosen_rate o t e h in
      let given = given_rate (eqb (number_in p) 0) (rate_of o) in
      record {
        result = λ m.
            let runs = called_runs s limit y.now x.now m refl ∙ sym (from_begun limit m) in
            rw (← i.is, f, rate, ← chosen_steps o t e h, k, runs, given) refl;
        given = rw (f, rate) refl;
      }

  -- a release, from there on
  pub releases_begun : (instance : ℕ) → release_steps instance ≡ s → Releases instance y.now x.now p log'
  unfolding releases
  releases_begun instance k =
      record { state = λ limit m. rw (called_runs _ limit y.now x.now m refl, k) (from_begun limit m) }

pub released : {instance : ℕ} {answers log log' : List ℕ} {p r : Progress} → p ≡ begun
    → Works (release_steps instance) answers p log r log' → Releases instance answers log r log'
unfolding releases
released {answers = answers} {log = log} b w =
    record { state = λ limit m. (rw b at ((w.does limit).state m)) ∙ sym (called_runs _ limit answers log m refl) }
