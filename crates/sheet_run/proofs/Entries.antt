-- A run's entries fit its log.
use mathlib.Core.Path.{◌≡◌, sym, ap, ap₂, ◌∙◌}
use mathlib.Core.List.{List, ◌++◌}
use Prim.Native.Nat.{ℕ, ◌+◌, ◌*◌, ◌≤◌}
use native.Mathlib.Omega.{arith}
use lib.ListN.{length, take, drop, replicate, length-append, length-replicate}
use lib.Seq.{take-append_seam}
use Rattle.model.specs.Steps.{Steps}
use Rattle.model.specs.State.{begun, called}
use Rattle.model.proofs.Called.{called_holds}
use Rattle.model.proofs.Kept.{every_advance_keeps}
use Rattle.chain.specs.Transaction.{outcome}
use Rattle.sheet.specs.Sheet.{Parsed, refused, sheet, parse}
use Rattle.access.specs.declared.progress.Progress.{Progress}
use Rattle.lines.specs.Text.{printed, Wrote, ending_of}
use Rattle.sheet_run.specs.Text.{filled, Behind}
use Rattle.sheet_run.specs.Run.{sheet_outcome, sheet_state, RunsSheet}
use Rattle.sheet_run.specs.Print.{ending_in, end_state, printed_sheet, Prints}

called_fits : (n : ℕ) (s : Steps) (limit : ℕ) (answers log m : List ℕ)
    → (called n s limit answers log m).entries * 2 ≤ length log
called_fits n s limit answers log m =
    called_holds (λ st. st.entries * 2 ≤ length log) n s limit answers log m (λ i. omega arith)
    (λ z. (every_advance_keeps s limit answers (begun log m)).fits (omega arith))

outcome_fits : (p : Parsed) (log : List ℕ) → (sheet_outcome p log).entries * 2 ≤ length log
unfolding sheet_outcome outcome
outcome_fits refused log = omega arith
outcome_fits (sheet s) log = called_fits _ _ _ _ log _

pub entries_fit : (bs log : List ℕ) → (sheet_state bs log).entries * 2 ≤ length log
unfolding sheet_state
entries_fit bs log = outcome_fits (parse bs) log

-- what is printed is what the run's state says
module _ (bs : List ℕ) {p : Progress} {log' bs' : List ℕ} (d : RunsSheet bs (replicate 8192 0) p log' bs') where
  pub prints_fit : p.entries * 2 ≤ 8192
  prints_fit =
      let e : p.entries ≡ (sheet_state bs (replicate 8192 0)).entries = ap (λ st. st.entries) d.state in
      omega (arith, e, entries_fit bs (replicate 8192 0), length-replicate {A = ℕ} 8192 0)

  pub prints :
      {text : List ℕ} {n : ℕ}
      → Wrote (replicate 65664 0) 0 text n (printed log' (ending_of p))
      → Behind text n × Prints bs (take n text) bs'
  unfolding printed_sheet end_state
  prints {text} {n} w =
      let x = printed log' (ending_of p) in
      let e : x ≡ printed_sheet bs = ap (λ st. printed st.log (ending_in st)) d.state in
      let z : 0 + length x ≡ length x = omega arith in
      let l : n ≡ length x = w.place ∙ z in
      let t : text ≡ filled x = w.text ∙ ap (λ k. x ++ drop k (replicate 65664 0)) z in
      let front : take n text ≡ x = ap₂ take l t ∙ take-append_seam x _ in (
        record { within = rw (l, t) (simp length-append (omega arith)); zeros = t ∙ ap filled (sym front) },
        record { text = front ∙ e; bytes = ap (λ st. st.memory) d.state },
      )

-- the text lies in its buffer
pub prints_within : {text : List ℕ} {n : ℕ} → Behind text n → n ≤ length text
prints_within b = b.within
