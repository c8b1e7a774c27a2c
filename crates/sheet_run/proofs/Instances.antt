-- The instances of what the laws ask for, computed.
use mathlib.Core.Path.{◌≡◌, refl}
use mathlib.Core.Bool.{true}
use mathlib.Core.List.{List, [], ◌∷◌}
use mathlib.Core.Logic.{inl, ⊎_elim}
use Prim.Native.Nat.{ℕ, ◌+◌, ◌*◌, ◌^◌, ◌≤◌, ◌<◌}
use native.Mathlib.Omega.{arith}
use lib.ListN.{length}
use Rattle.model.specs.Field.{get_field}
use Rattle.model.specs.Event.{head_of, value_of, answer_of, answers_of, receive, words, stored}
use Rattle.model.specs.Tally.{plus, poll_tally, tally_event, tally_of}
use Rattle.model.specs.Steps.{then, wait_for}
use Rattle.model.specs.Run.{entered, answered, poll, run}
use Rattle.model.specs.State.{room_of, ran, onward, advance, called}
use Rattle.records.specs.Rules.{cycles}
use Rattle.records.specs.Check.{out_of_range, extents_fault, windows_fault, record_fault, records_in, along, checked}
use Rattle.chain.specs.Chain.{record_steps, chain_steps}
use Rattle.chain.specs.Transaction.{first_fault, refusal, outcome}
use Rattle.chain.proofs.Instances.{hypotheses_met as met}
use Rattle.sheet.specs.Sheet.{parse}
use Rattle.sheet.proofs.WordLaws.{all_below, below_by}
use Rattle.sheet_run.specs.Run.{sheet_fault, sheet_outcome, sheet_state}
use Rattle.sheet_run.specs.Print.{end_state}
use Rattle.sheet_run.specs.Laws.{Continued, flush_bytes, quad_bytes, HypothesesMet}

-- a sheet with another limit and more answers, computed
may_continue : (l : ℕ) (xs bs : List ℕ) → 0 < l → all_below 256 bs ≡ true → all_below (2 ^ 32) (l ∷ xs) ≡ true
    → length bs + 4 * length xs ≤ 65536 → Continued l xs bs
may_continue l xs bs some b w f =
    let words = below_by (2 ^ 32) (l ∷ xs) w in
    record { bytes = below_by 256 bs b; some = some; word = words.0; words = words.1; fits = f }

-- the sheet of quad records runs its chain
quads_end : (end_state quad_bytes).number ≡ 2
unfolding end_state sheet_state sheet_outcome parse
quads_end = met.unsupported

pub hypotheses_met : HypothesesMet
unfolding get_field head_of value_of answer_of answers_of receive words stored plus poll_tally tally_event tally_of then
    wait_for entered answered poll run room_of ran onward advance called cycles out_of_range extents_fault windows_fault
    record_fault records_in along checked record_steps chain_steps first_fault refusal outcome parse sheet_outcome
    sheet_state end_state sheet_fault
hypotheses_met =
    record {
      ended = inl refl;
      continued = may_continue 5 (7 ∷ []) flush_bytes (omega arith) refl refl (omega arith);
      above = omega arith;
      lower = may_continue 1 [] flush_bytes (omega arith) refl refl (omega arith);
      not_above = omega arith;
      quads = may_continue 5 [] quad_bytes (omega arith) refl refl (omega arith);
      unsupported = quads_end;
      refused = λ h. omega (arith, h);
      not_met =
          ⊎_elim (λ e. omega (arith, e))
          (⊎_elim (λ e. omega (arith, e))
          (⊎_elim (λ e. omega (arith, e)) (⊎_elim (λ e. omega (arith, e)) (λ e. omega (arith, e)))));
      passed = refl;
      faulty = refl;
      read = refl;
    }
