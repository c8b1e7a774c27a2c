-- A transaction as a user calls it: refused, or run from no entry and the first answer on; and demand 3 for it.
use mathlib.Core.Path.{◌≡◌, refl, sym, ap, ◌∙◌}
use mathlib.Core.Bool.{Bool, true, false, cond}
use mathlib.Core.List.{List}
use mathlib.Core.Logic.{◌⊎◌, ⊎_elim}
use Prim.Native.Nat.{ℕ, ◌≤◌, ◌<◌}
use native.Mathlib.Omega.{arith}
use lib.Dec.{eqb}
use lib.ListN.{length}
use borrow.Author.Tests.{ne_eqb}
use Rattle.model.proofs.Called.{called_refused, called_runs, others_touch_nothing}
use Rattle.model.proofs.Refusable.{limited_steady, another_limit_called}
use Rattle.std.proofs.Common.{Bor, MutBor}
use Rattle.std.specs.Prelude.{Result, Ok, Err}
use Rattle.std.specs.Int.NonZero.{non_zero_u32_get}
use Rattle.std.specs.declared.num.NonZeroU32.{NonZeroU32}
use Rattle.config.specs.declared.error.QspiError.{QspiError}
use Rattle.config.specs.declared.error.QspiError.TheVariants.{Limit}
use Rattle.config.specs.Error.{error_number}
use Rattle.access.specs.declared.progress.Progress.{Progress}
use Rattle.access.specs.declared.block.RegisterBlock.{RegisterBlock}
use Rattle.access.specs.Of.{refused}
use Rattle.access.specs.Makes.{Begun, progress_of}
use Rattle.access.specs.Goes.{GoesOn}
use Rattle.config.proofs.Laws.{not_done}
use Rattle.access.proofs.Goes.{begun_runs}
use Rattle.records.specs.declared.Fault.{Fault}
use Rattle.records.specs.declared.rules.Rules.{Rules}
use Rattle.records.specs.Check.{Checked, checked, fault, verdict, number_of, chain_of}
use Rattle.records.specs.Laws.{OfFault, EachFault}
use Rattle.records.proofs.Lengths.{fault_numbers}
use Rattle.chain.specs.Chain.{chain_steps}
use Rattle.chain.specs.Transaction.{Request, found_in, first_fault, refusal, outcome, FaultNumber, Transacts}
use Rattle.chain.specs.Laws.{refusable, ChainSteady, ChainAgain, ChainRefused, ChainUntouched}
use Rattle.records.proofs.WalkLaws.{not_fine}
use Rattle.chain.proofs.Running.{finds, steps_in}

-- the number of what the check finds is the refusal
pub fault_number : FaultNumber
unfolding first_fault refusal
fault_number limit found = by (eqb limit 0)
  where
    by : (b : Bool) → number_of (cond b (Err (fault Limit 0)) (verdict found)) ≡ cond b 7 (number_of (verdict found))
    by true = refl
    by false = refl

-- what is found at limit 0, and at any other
module _ {limit : ℕ} (found : Checked) where
  pub none_first : limit ≡ 0 → first_fault limit found ≡ Err (fault Limit 0)
  unfolding first_fault
  none_first z = rw z refl

  pub some_first : (limit ≡ 0 → ⊥) → first_fault limit found ≡ verdict found
  unfolding first_fault
  some_first i = rw (ne_eqb limit 0 i) refl

-- nothing is found at no limit 0
pub fault_free : (limit : ℕ) (found : Checked) → first_fault limit found ≡ Ok tt
    → (limit ≡ 0 → ⊥) × (verdict found ≡ Ok tt)
fault_free limit found e =
    let n : limit ≡ 0 → ⊥ = λ z. not_fine (fault Limit 0) (sym (none_first found z) ∙ e) in
    (n, sym (some_first found n) ∙ e)

-- a fault's number is neither 0 nor 2
fault_not : (n k : ℕ) → OfFault n → k < 6 → n ≡ k → ⊥
fault_not n k f h z =
    ⊎_elim (other 6 (omega arith))
    (⊎_elim (other 8 (omega arith)) (⊎_elim (other 9 (omega arith)) (other 14 (omega arith)))) f
  where
    other : (m : ℕ) → 6 ≤ m → n ≡ m → ⊥
    other m i e = omega (arith, i, e, h, z)

found_not : (c : Checked) (k : ℕ) → EachFault OfFault c → k < 6 → number_of (verdict c) ≡ k
    → (k ≡ 0) × (verdict c ≡ Ok tt)
found_not (Err g) k f h e = absurd (fault_not (error_number g.error) k f h e)
found_not (Ok rs) k f h e = (sym e, refl)

module _ {c : Request} {limit : ℕ} {m : List ℕ} where
  pub refused_transacts : {f : Fault} (answers log : List ℕ) → Err f ≡ first_fault limit (finds c m)
      → Transacts c limit answers log m (refused f.error) log m
  unfolding outcome
  refused_transacts {f} answers log e =
      let n : error_number f.error ≡ refusal limit (finds c m) = ap number_of e ∙ fault_number limit _ in
      record {
        state = rw (← n) (sym (called_refused (steps_in c m) limit answers log m (not_done f.error)));
      }

  -- Where nothing was found, it has run from no entry and the first answer on.
  pub goes_transacts : {l : NonZeroU32} {answers : Bor (List ℕ)} {log : MutBor (List ℕ)} {b r : RegisterBlock}
      {ended : Result (Unit {0}) QspiError} {m' : List ℕ}
      → first_fault limit (finds c m) ≡ Ok tt → non_zero_u32_get l ≡ limit → Begun l log answers b
      → GoesOn (steps_in c m) b m r m' ended
      → {p : Progress} → p ≡ progress_of ended r → {log' : List ℕ} → log' ≡ r.log.now
      → Transacts c limit answers.now log.now m p log' m'
  unfolding outcome
  goes_transacts {answers = answers} {log = log} z l b d q f =
      let n : refusal limit (finds c m) ≡ 0 = sym (fault_number limit _) ∙ ap number_of z in
      let runs = called_runs (steps_in c m) limit answers.now log.now m n in
      rw (q, f) (record { state = (rw l at (begun_runs b d)).state ∙ sym runs })

pub never_two : (rules : Rules) (memory : ℕ) (ws : List ℕ) → number_of (verdict (checked rules memory ws)) ≡ 2 → ⊥
never_two rules memory ws h =
    let z = (found_not (checked rules memory ws) 2 (fault_numbers rules memory ws) (omega arith) h).0 in
    omega (arith, z)

pub chain_steady : ChainSteady
chain_steady c memory =
    let found = found_in c memory in
    limited_steady (number_of (verdict found)) (chain_steps c.settings (chain_of found))
    (never_two c.settings.rules memory c.words)

pub chain_again : ChainAgain
unfolding outcome refusal
chain_again c limit limit' answers more log m =
    another_limit_called (refusable c (length m)) (chain_steady c (length m)) limit limit' answers more log m

pub chain_refused : ChainRefused
unfolding outcome
chain_refused c limit answers log m i = called_refused (steps_in c m) limit answers log m i

pub chain_untouched : ChainUntouched
unfolding outcome
chain_untouched c limit answers log m =
    others_touch_nothing (refusal limit (finds c m)) (steps_in c m) limit answers log m
