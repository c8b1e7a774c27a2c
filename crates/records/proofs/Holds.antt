-- What holds of whatever the check finds: it holds of no record, of each fault, and of a chain with one record more in
-- front. What holds of each record may be used.
use Rattle.std.proofs.Common.{◌≡◌, ℕ, suc, ◌/◌, ◌%◌, Bool, true, false, cond, eqb, List, [], ◌∷◌, length}
use Rattle.std.proofs.Common.{Result, Ok, Err, refl}
use Rattle.config.specs.declared.error.QspiError.{QspiError}
use Rattle.config.specs.declared.error.QspiError.TheVariants.{Chain}
use Rattle.records.specs.declared.rules.Rules.{Rules}
use Rattle.records.specs.Check.{next_of, record_fault, Checked, fault, ahead, step, records_in, along, checked}
use Rattle.records.specs.Laws.{Each}

cond_holds : (Q : Checked → Type 0) (b : Bool) {c d : Checked} → Q c → Q d → Q (cond b c d)
cond_holds Q true h k = h
cond_holds Q false h k = k

module _
    (P : List ℕ → Type 0)
    (Q : Checked → Type 0)
    (rules : Rules)
    (memory count : ℕ)
    (none : Q (Ok []))
    (stops : (own : ℕ) (r : List ℕ) (e : QspiError)
    → P r → record_fault rules memory count own r ≡ Err e → Q (Err (fault e own)))
    (passes : (own : ℕ) (r : List ℕ) (c : Checked)
    → P r → record_fault rules memory count own r ≡ Ok tt → Q c → Q (ahead r c)) where
  step_holds : (f : Result (Unit {0}) QspiError) (own : ℕ) (r : List ℕ) (c : Checked)
      → P r → record_fault rules memory count own r ≡ f → Q c → Q (step f own r c)
  step_holds (Ok done) own r c p e h = passes own r c p e h
  step_holds (Err n) own r c p e h = stops own r n p e

  along_holds : (rs : List (List ℕ)) → Each P rs → (own due : ℕ) → Q (along rules memory count rs own due)
  unfolding along
  along_holds [] p own due = none
  along_holds (r ∷ rs) p own due =
      cond_holds Q (eqb own due)
      (step_holds (record_fault rules memory count own r) own r _ p.0 refl
      (cond_holds Q (eqb (next_of r) 0) none (along_holds rs p.1 (suc own) (next_of r))))
      (along_holds rs p.1 (suc own) due)

-- of words whose records have P
pub checked_holds_of : (P : List ℕ → Type 0) (Q : Checked → Type 0) (rules : Rules) (memory : ℕ) (ws : List ℕ)
    → Each P (records_in (length ws / 8) ws) → Q (Ok []) → Q (Err (fault Chain 0))
    → ((own : ℕ) (r : List ℕ) (e : QspiError)
    → P r → record_fault rules memory (length ws / 8) own r ≡ Err e → Q (Err (fault e own)))
    → ((own : ℕ) (r : List ℕ) (c : Checked)
    → P r → record_fault rules memory (length ws / 8) own r ≡ Ok tt → Q c → Q (ahead r c))
    → Q (checked rules memory ws)
unfolding checked
checked_holds_of P Q rules memory ws each none eight stops passes =
    let count = length ws / 8 in
    cond_holds Q (eqb (length ws % 8) 0)
    (along_holds P Q rules memory count none stops passes (records_in count ws) each 1 1)
    eight

pub any_record : (rs : List (List ℕ)) → Each (λ r. Unit {0}) rs
any_record [] = tt
any_record (r ∷ rs) = (tt, any_record rs)

-- of any words
pub checked_holds : (Q : Checked → Type 0) (rules : Rules) (memory : ℕ) (ws : List ℕ)
    → Q (Ok []) → Q (Err (fault Chain 0))
    → ((own : ℕ) (r : List ℕ) (e : QspiError)
    → record_fault rules memory (length ws / 8) own r ≡ Err e → Q (Err (fault e own)))
    → ((own : ℕ) (r : List ℕ) (c : Checked)
    → record_fault rules memory (length ws / 8) own r ≡ Ok tt → Q c → Q (ahead r c))
    → Q (checked rules memory ws)
checked_holds Q rules memory ws none eight stops passes =
    checked_holds_of (λ r. Unit {0}) Q rules memory ws (any_record (records_in (length ws / 8) ws)) none eight
    (λ own r e p. stops own r e) (λ own r c p. passes own r c)
