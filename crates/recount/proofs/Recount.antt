-- Polls counted again, of every call, chain and sheet.
use mathlib.Core.Path.{◌≡◌, refl, ap, ◌∙◌}
use mathlib.Core.Bool.{false}
use mathlib.Core.List.{List, []}
use mathlib.Core.Logic.{◌⊎◌, inl, inr, ⊎_elim}
use Prim.Native.Nat.{ℕ, suc, ◌+◌, ◌*◌, ◌≤◌}
use native.Mathlib.Omega.{arith}
use native.Mathlib.Nat.{zero-add}
use lib.ListN.{length, take}
use lib.Seq.{take_at}
use Rattle.model.specs.Field.{get_field, set_field}
use Rattle.model.specs.Event.{head_of, value_of, answer_of, answers_of, receive, words, stored}
use Rattle.model.specs.Tally.{plus, poll_tally, tally_event, tally_of}
use Rattle.model.specs.Steps.{Steps, then, change, wait_for}
use Rattle.model.specs.Run.{Outcome, entered, answered, poll, run}
use Rattle.model.specs.State.{begun, room_of, ran, onward, advance, called}
use Rattle.model.proofs.Advance.{starts}
use Rattle.model.proofs.Called.{called_holds}
use Rattle.model.proofs.Ends.{every_run_ends}
use Rattle.model.proofs.Kept.{log_words}
use Rattle.model.proofs.Trace.{length_words}
use Rattle.qspi.specs.Phases.{reset_fifos, program_transfer, start_transfer, begin_transfer, moved, paced, tx_phase}
use Rattle.chain.specs.Transaction as chain
use Rattle.bus.specs.Calls as bus
use Rattle.sheet.specs.Sheet.{Parsed, refused, sheet, parse}
use Rattle.sheet_run.specs.Run.{sheet_outcome}
use Rattle.recount.specs.Recount.{entries_with, reads, writes, made, Recounts}
use Rattle.recount.specs.Recount.{CallsRecount, ChainsRecount, SheetsRecount, HypothesesMet}
use Rattle.recount.proofs.Paired.{Paired, Balanced, balanced}
use Rattle.recount.proofs.Calls.{call_paired, chain_paired}

-- nothing was done
untouched : (n : ℕ) (log m : List ℕ)
    → Recounts (record {
      number = n;
      entries = 0;
      taken = 0;
      tally = record { polls = 0; longest = 0 };
      log = log;
      memory = m;
    })
unfolding entries_with
untouched n log m = record { whole = λ i. refl; cut = inl refl }

-- the words of the entries made are those of the trace
made_words : (log m : List ℕ) (o : Outcome) → length o.trace ≤ room_of (begun log m)
    → made (ran (begun log m) o) ≡ words o.trace
unfolding ran room_of
made_words log m o h =
    let t = o.trace in
    let n : length (words t) ≡ (0 + length t) * 2 = omega (arith, length_words t) in
    ap (take ((0 + length t) * 2)) (log_words t log 0 (omega arith)) ∙ take_at (words t) _ _ n

ran_polls : (log m : List ℕ) (o : Outcome) → (ran (begun log m) o).tally.polls ≡ (tally_of o.trace).polls
unfolding ran plus
ran_polls log m o = zero-add _

ran_number : (log m : List ℕ) (o : Outcome) → (ran (begun log m) o).number ≡ o.number
unfolding ran
ran_number log m o = refl

ran_recounts : (log m : List ℕ) (o : Outcome) → length o.trace ≤ room_of (begun log m) → Balanced o
    → Recounts (ran (begun log m) o)
ran_recounts log m o h b =
    let st = ran (begun log m) o in
    let q = made_words log m o h in
    let r : reads (made st) ≡ reads (words o.trace) = ap (λ ws. reads ws) q in
    let w : writes (made st) ≡ writes (words o.trace) = ap (λ ws. writes ws) q in
    let p = ran_polls log m o in
    record {
      whole =
          λ i. ⊎_elim {C = reads (made st) ≡ st.tally.polls + writes (made st)}
          (λ e. omega arith) (λ e. absurd (i (ran_number log m o ∙ e.0))) b;
      cut =
          ⊎_elim {C = (reads (made st) ≡ st.tally.polls + writes (made st))
          ⊎ (reads (made st) ≡ suc (st.tally.polls + writes (made st)))}
          (λ e. inl (omega arith)) (λ e. inr (omega (arith, e.1))) b;
    }

recounts : {s : Steps} → Paired s → (limit : ℕ) (answers log m : List ℕ)
    → Recounts (advance s limit answers (begun log m))
unfolding advance
recounts {s} h limit answers log m =
    let st = begun log m in
    rw (starts (run s limit false) answers st refl)
    (ran_recounts log m _ (omega (arith, (every_run_ends s limit (room_of st) answers m).entries))
    (balanced h limit false (room_of st) answers m))

-- a call that may be refused
called_recounts : (n : ℕ) {s : Steps} → Paired s → (limit : ℕ) (answers log m : List ℕ)
    → Recounts (called n s limit answers log m)
called_recounts n {s} h limit answers log m =
    called_holds Recounts n s limit answers log m (λ i. untouched n log m) (λ z. recounts h limit answers log m)

pub calls_recount : CallsRecount
unfolding bus.outcome
calls_recount call limit answers log m = called_recounts _ (call_paired call) limit answers log m

pub chains_recount : ChainsRecount
unfolding chain.outcome
chains_recount c limit answers log m = called_recounts _ (chain_paired c.settings _) limit answers log m

pub sheets_recount : SheetsRecount
unfolding sheet_outcome
sheets_recount bs log = by (parse bs)
  where
    by : (p : Parsed) → Recounts (sheet_outcome p log)
    by refused = untouched 13 log []
    by (sheet s) = chains_recount _ s.limit s.answers log s.memory

pub hypotheses_met : HypothesesMet
unfolding entries_with set_field head_of value_of answer_of answers_of receive words stored plus poll_tally tally_event
    tally_of then change wait_for entered answered poll run room_of ran onward advance called reset_fifos
    program_transfer start_transfer begin_transfer moved paced tx_phase bus.steps_of bus.lengths_of bus.too_long
    bus.refusal bus.outcome get_field
hypotheses_met = record { done = refl; counted = (refl, refl, refl); full = refl; more = refl }
