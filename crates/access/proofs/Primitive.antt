-- The ways in which one access ends: without room, without an answer, or entered.
use mathlib.Core.Path.{◌≡◌, refl, sym, ◌∙◌}
use mathlib.Core.List.{List, [], ◌∷◌}
use Prim.Native.Nat.{ℕ, zero, suc, ◌+◌, ◌*◌, ◌/◌, ◌≤◌, ◌<◌}
use native.Mathlib.Omega.{arith}
use native.Mathlib.Nat.{add-zero}
use lib.ListN.{length, set, get_or}
use Rattle.std.specs.Prelude.{Err, None, slice_get}
use Rattle.std.proofs.lemmas.Option.{none-some}
use Rattle.model.specs.Event as event
use Rattle.model.specs.Event.{act_head, act_value, ask_head, said, head_of, value_of, answer_of, receive}
use Rattle.model.specs.Event.Event.{heard}
use Rattle.model.specs.Tally.{tally_event}
use Rattle.model.specs.Steps.End.{done}
use Rattle.model.specs.Steps.Steps.{end, act, ask}
use Rattle.model.specs.Run.{stop, run}
use Rattle.model.specs.State.{advance}
use Rattle.model.proofs.Trace.{plus_none}
use Rattle.model.proofs.Advance.{ended, onward_end}
use Rattle.model.proofs.Entry.{act_full, act_noted, answered_full, answered_dry, answered_noted}
use Rattle.config.specs.declared.error.QspiError.TheVariants.{Log, Answers}
use Rattle.access.specs.declared.progress.Progress.{Progress}
use Rattle.access.specs.Of.{state_of, number_in, with_ended, with_counts}
use Rattle.access.specs.Does.{Sound, Works}

-- the log after that entry
abbrev pub entry : Progress → List ℕ → ℕ → ℕ → List ℕ
entry p log head value = set (set log (p.entries * 2) head) (p.entries * 2 + 1) value

-- no answer stands at the place reached
pub none_left : (ws : List ℕ) (at : ℕ) → slice_get ws at ≡ None → length ws ≤ at
none_left [] at e = omega arith
none_left (w ∷ ws) zero e = absurd (none-some w (sym e))
none_left (w ∷ ws) (suc at) e = omega (arith, none_left ws at e)

module _ (p : Progress) (log : List ℕ) (few : Sound p) (z : number_in p ≡ 0) (ws : List ℕ) where
  works_by : {s : _} {r : Progress} {log' : List ℕ} → Sound r
      → ((limit : ℕ) (m : List ℕ) → state_of r log' m ≡ advance s limit ws (state_of p log m))
      → Works s ws p log r log'
  works_by f e = record { sound = f; does = λ limit. record { sound = f; state = e limit } }

  pub act_ten : (a : event.Act) → length log / 2 ≤ p.entries
      → Works (act a (end done)) ws p log (with_ended (Err Log) p) log
  act_ten a h = works_by few (λ l m. sym (act_full ws (state_of p log m) z a (end done) l h))

  pub act_entered : (a : event.Act) (log' : List ℕ) {head value : ℕ} → p.entries < length log / 2
      → log' ≡ entry p log head value → head ≡ act_head a → value ≡ act_value a
      → Works (act a (end done)) ws p log (with_counts (p.entries + 1) p.taken p) log'
  unfolding answer_of receive tally_event head_of value_of
  act_entered a log' h e i v =
      works_by (omega arith)
      (λ l m. sym (act_noted ws (state_of p log m) z a (end done) l h ∙ ended l ws _
      ∙ rw (e, i, v) (simp (add-zero, plus_none))))

  module _ (q : event.Ask) where
    pub ask_ten : length log / 2 ≤ p.entries → Works (ask q (λ x. end done)) ws p log (with_ended (Err Log) p) log
    unfolding advance run answer_of receive
    ask_ten h = works_by few (λ l m. sym (answered_full ws (state_of p log m) z (heard q) (λ m' x r ws. stop 0 r ws m')
        (λ x. refl) h))

    pub ask_eleven : p.entries < length log / 2 → length ws ≤ p.taken
        → Works (ask q (λ x. end done)) ws p log (with_ended (Err Answers) p) log
    unfolding advance run answer_of receive
    ask_eleven h f = works_by few (λ l m. sym (answered_dry ws (state_of p log m) z (heard q)
        (λ m' x r ws. stop 0 r ws m') (λ x. refl) h f))

    pub ask_entered : (log' : List ℕ) {head w : ℕ} → p.entries < length log / 2 → p.taken < length ws
        → log' ≡ entry p log head w → head ≡ ask_head q → w ≡ said q (get_or ws p.taken 0)
        → Works (ask q (λ x. end done)) ws p log (with_counts (p.entries + 1) (p.taken + 1) p) log'
    unfolding advance run answer_of receive tally_event head_of value_of
    ask_entered log' h left e i v =
        works_by (omega arith)
        (λ l m.
        sym (answered_noted ws (state_of p log m) z (heard q) (λ m' x r ws. stop 0 r ws m') (λ x. refl) h left
        ∙ onward_end ws _ ∙ rw (e, i, v) (simp plus_none)))
