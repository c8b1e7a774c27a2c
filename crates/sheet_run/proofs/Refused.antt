-- A refused sheet, and the number that none gives.
use mathlib.Core.Path.{◌≡◌, refl, sym, ap, ◌∙◌}
use mathlib.Core.Bool.{true}
use mathlib.Core.Logic.{inl}
use mathlib.Core.List.{List, ◌++◌}
use Prim.Native.Nat.{ℕ, ◌-◌, ◌^◌, ◌≤◌}
use native.Mathlib.Omega.{arith}
use lib.ListN.{length, take, drop, length-drop, take-append-drop}
use Rattle.model.specs.State.{begun, with_number, with_memory}
use Rattle.model.specs.Ends.{Met}
use Rattle.model.specs.Called.{Untouched}
use Rattle.model.proofs.Called.{limit_never, called_never}
use Rattle.config.specs.Error.{touches_nothing}
use Rattle.config.proofs.Laws.{never_met}
use Rattle.std.specs.Prelude.{Ok, Err}
use Rattle.records.specs.Check.{Checked, checked, verdict, number_of, chain_of}
use Rattle.records.specs.declared.rules.Rules.TheVariants as Rules
use Rattle.records.specs.Laws.{EachFault, Words}
use Rattle.records.proofs.Lengths.{never_6, never_14}
use Rattle.chain.specs.Chain.{chain_steps}
use Rattle.chain.specs.Transaction.{found_in, refusal, outcome}
use Rattle.chain.proofs.Entry.{fault_number, chain_refused, chain_untouched}
use Rattle.sheet.specs.Sheet.{Sheet, Parsed, refused, sheet, sheet_of, parse, record_count, answer_count, memory_from}
use Rattle.sheet.specs.Words.{Below}
use Rattle.sheet.proofs.WordLaws.{get_or_below}
use Rattle.sheet.proofs.SheetLaws.{accepted_is, parsed, sheet_of_formed}
use Rattle.sheet_run.specs.Run.{chain_in, sheet_fault, sheet_outcome, bytes_with, sheet_state, state_with}
use Rattle.sheet_run.specs.Laws.{sheet_refusal, OwnAnswers, SheetRefused, SheetUntouched, SheetNever6, SheetNever14}

-- what stands before the memory of a sheet, and the memory, are its bytes
rejoined : (bs : List ℕ) (s : Sheet) → parse bs ≡ sheet s → take (length bs - length s.memory) bs ++ s.memory ≡ bs
rejoined bs s e =
    let p = parsed bs s e in
    let ok = accepted_is bs p.0 in
    let k = memory_from (record_count bs) (answer_count bs) in
    let fits : k ≤ length bs = ok.enough in
    let l : length (drop k bs) ≡ length bs - k = length-drop k bs in
    let back : length bs - length (drop k bs) ≡ k = omega arith in
    rw (← p.1, back) (take-append-drop k bs)

pub refused_leaves : SheetRefused
unfolding sheet_state sheet_outcome sheet_fault
refused_leaves bs log = by (parse bs) refl
  where
    by : (p : Parsed) → parse bs ≡ p → (sheet_refusal p ≡ 0 → ⊥)
        → with_memory (bytes_with bs p (sheet_outcome p log).memory) (sheet_outcome p log)
        ≡ with_number (sheet_refusal p) (begun log bs)
    by refused e i = refl
    by (sheet s) e i =
        let n = fault_number s.limit (found_in (chain_in s) (length s.memory)) in
        rw (n, chain_refused (chain_in s) s.limit s.answers log s.memory (λ z. i (n ∙ z)), rejoined bs s e) refl

pub own_answers : OwnAnswers
unfolding state_with sheet_state
own_answers s bs log e = rw e refl

pub sheet_untouched : SheetUntouched
unfolding sheet_state sheet_outcome
sheet_untouched bs log = by (parse bs) refl
  where
    by : (p : Parsed) → parse bs ≡ p → (Met (sheet_outcome p log).number → ⊥)
        → Untouched log bs (with_memory (bytes_with bs p (sheet_outcome p log).memory) (sheet_outcome p log))
    by refused e n =
        record { entries = refl; taken = refl; polls = refl; longest = refl; log = refl; memory = refl }
    by (sheet s) e n =
        let u = chain_untouched (chain_in s) s.limit s.answers log s.memory n in
        record {
          entries = u.entries;
          taken = u.taken;
          polls = u.polls;
          longest = u.longest;
          log = u.log;
          memory = ap (take (length bs - length s.memory) bs ++◌) u.memory ∙ rejoined bs s e;
        }

fault_never : (k : ℕ) → (k ≡ 0 → ⊥) → (c : Checked) → EachFault (λ n. n ≡ k → ⊥) c → number_of (verdict c) ≡ k → ⊥
fault_never k some (Err g) f e = f e
fault_never k some (Ok rs) f e = some (sym e)

memory_short : (bs : List ℕ) (s : Sheet) → parse bs ≡ sheet s → length s.memory ≤ 0xFFFFFF
memory_short bs s e =
    let p = parsed bs s e in
    let most : length bs ≤ 65536 = (accepted_is bs p.0).most in
    let k = memory_from (record_count bs) (answer_count bs) in
    let l : length (drop k bs) ≡ length bs - k = length-drop k bs in
    rw (← p.1) (omega arith)

-- what the check finds in no sheet, of the numbers that touch nothing, 7 and 13 apart, no sheet gives
module _ (k : ℕ) (class : touches_nothing k ≡ true) (no_limit : k ≡ 7 → ⊥) (no_sheet : k ≡ 13 → ⊥)
    (bs log : List ℕ) where
  sheet_never :
      ((s : Sheet) → parse bs ≡ sheet s
      → EachFault (λ n. n ≡ k → ⊥) (checked Rules.Sheet (length s.memory) s.records))
      → (sheet_state bs log).number ≡ k → ⊥
  unfolding sheet_state sheet_outcome outcome refusal
  sheet_never none = by (parse bs) refl
    where
      by : (p : Parsed) → parse bs ≡ p → (sheet_outcome p log).number ≡ k → ⊥
      by refused e = λ h. no_sheet (sym h)
      by (sheet s) e =
          let c = chain_in s in
          let found = found_in c (length s.memory) in
          called_never k (refusal s.limit found)
          (chain_steps c.settings (chain_of found)) s.limit s.answers log s.memory
          (never_met k class)
          (limit_never s.limit (number_of (verdict found)) k no_limit
          (fault_never k (λ z. never_met k class (inl z)) found (none s e)))

pub sheet_never_6 : SheetNever6
sheet_never_6 bs log =
    sheet_never 6 refl (λ e. omega (arith, e)) (λ e. omega (arith, e)) bs log
    (λ s e. never_6 (length s.memory) (memory_short bs s e) Rules.Sheet s.records)

-- each word of the records of bytes has 32 bits
records_words : (bs : List ℕ) → Below 256 bs → (s : Sheet) → parse bs ≡ sheet s → Words s.records
records_words bs b s e i =
    let p = parsed bs s e in
    rw (← p.1)
    (get_or_below (2 ^ 32) (sheet_of bs).records i (omega arith) (sheet_of_formed bs b (accepted_is bs p.0)).records)

pub sheet_never_14 : SheetNever14
sheet_never_14 bs log b =
    sheet_never 14 refl (λ e. omega (arith, e)) (λ e. omega (arith, e)) bs log
    (λ s e. never_14 s.records (records_words bs b s e) (length s.memory))
