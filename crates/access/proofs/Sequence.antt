-- What calls one after the other have done.
use mathlib.Core.Path.{◌≡◌, ap, sym, ◌∙◌}
use mathlib.Core.List.{List, ◌++◌}
use Prim.Native.Nat.{ℕ, ◌+◌, ◌≤◌}
use native.Mathlib.Omega.{arith}
use lib.ListN.{length, take, drop, length-take, length-drop, take-append-drop}
use Rattle.std.specs.Prelude.{Result}
use Rattle.config.specs.declared.error.QspiError.{QspiError}
use Rattle.config.specs.Error.{ended_number}
use Rattle.model.specs.Steps.{End, Steps, number_of, then}
use Rattle.model.specs.Steps.End.{done}
use Rattle.model.specs.Steps.Steps.{end}
use Rattle.model.specs.State.{with_memory, with_number, advance}
use Rattle.model.specs.Frame.{Inside}
use Rattle.model.proofs.Advance.{chain, ended, ends, skipped}
use Rattle.model.proofs.Frame.{advances_inside}
use Rattle.access.specs.declared.progress.Progress.{Progress}
use Rattle.access.specs.Of.{state_of, number_in, with_ended}
use Rattle.access.specs.Does.{Sound, Does, Works, Runs}

module _ {limit : ℕ} {answers : List ℕ} {p r t : Progress} {log log' log'' : List ℕ} where
  pub then_does : {f g : Steps} → Does f limit answers p log r log' → Does g limit answers r log' t log'' → Does (then f g) limit answers p log t log''
  then_does {f} {g} d e =
      record { sound = e.sound; state = λ m. chain f g limit answers (state_of p log m) (d.state m) (e.state m) }

  -- the same on a memory that the two change
  pub then_runs : {f g : Steps} {m m' m'' : List ℕ} → Runs f limit answers p log m r log' m' → Runs g limit answers r log' m' t log'' m''
      → Runs (then f g) limit answers p log m t log'' m''
  then_runs {f} {g} {m} d e = record { sound = e.sound; state = chain f g limit answers (state_of p log m) d.state e.state }

module _ {answers : List ℕ} {p r t : Progress} {log log' log'' : List ℕ} where
  pub then_works : {f g : Steps} → Works f answers p log r log' → Works g answers r log' t log'' → Works (then f g) answers p log t log''
  then_works d e = record { sound = e.sound; does = λ limit. then_does (d.does limit) (e.does limit) }

-- The second is not begun where the first was stopped.
module _ {limit : ℕ} {answers : List ℕ} {p r : Progress} {log log' : List ℕ} (f g : Steps)
    (n : number_in r ≡ 0 → ⊥) where
  pub stop_does : Does f limit answers p log r log' → Does (then f g) limit answers p log r log'
  stop_does d =
      record {
        sound = d.sound;
        state = λ m. chain f g limit answers (state_of p log m) (d.state m) (sym (skipped g limit answers _ n));
      }

  pub stop_runs : {m m' : List ℕ} → Runs f limit answers p log m r log' m'
      → Runs (then f g) limit answers p log m r log' m'
  stop_runs {m} d =
      record {
        sound = d.sound;
        state = chain f g limit answers (state_of p log m) d.state (sym (skipped g limit answers _ n));
      }

pub does_runs : {s : Steps} {limit : ℕ} {answers : List ℕ} {p r : Progress} {log log' : List ℕ} → Does s limit answers p log r log'
    → (m : List ℕ) → Runs s limit answers p log m r log' m
does_runs d m = record { sound = d.sound; state = d.state m }

pub nothing_done : {limit : ℕ} {answers : List ℕ} {p : Progress} {log : List ℕ} → Sound p → Does (end done) limit answers p log p log
nothing_done {limit} {answers} {p} {log} few = record { sound = few; state = λ m. sym (ended limit answers (state_of p log m)) }

pub nothing_works : {answers : List ℕ} {p : Progress} {log : List ℕ} → Sound p → Works (end done) answers p log p log
nothing_works few = record { sound = few; does = λ limit. nothing_done few }

-- An end by itself, with nothing done for it: of a call that goes on, and of one that was stopped.
module _ (e : End) (answers : List ℕ) (p : Progress) (log : List ℕ) (few : Sound p) where
  pub works_end : {by : Result (Unit {0}) QspiError} → number_in p ≡ 0 → ended_number by ≡ number_of e
      → Works (end e) answers p log (with_ended by p) log
  works_end z k =
      record {
        sound = few;
        does = λ limit. record {
          sound = few;
          state = λ m. ap (λ n. with_number n (state_of p log m)) k ∙ sym (ends e limit answers (state_of p log m) z);
        };
      }

  pub works_not : (number_in p ≡ 0 → ⊥) → Works (end e) answers p log p log
  works_not i =
      record {
        sound = few;
        does = λ limit. record { sound = few; state = λ m. sym (skipped (end e) limit answers (state_of p log m) i) };
      }

-- a part of the memory is as long as it says
pub part_length : (at len : ℕ) (m : List ℕ) → at + len ≤ length m → length (take len (drop at m)) ≡ len
part_length at len m h = simp (length-take, length-drop) (omega arith)

-- What was done on a part of the memory, from index `at` on, was done on the whole.
pub runs_part : (s t : Steps) (at len : ℕ) {limit : ℕ} {answers : List ℕ} {p r : Progress} {log log' m part' : List ℕ} → at + len ≤ length m
    → Inside at len s t → Runs t limit answers p log (take len (drop at m)) r log' part'
    → Runs s limit answers p log m r log' (take at m ++ (part' ++ drop len (drop at m)))
runs_part s t at len {limit} {answers} {p} {r} {log} {log'} {m} {part'} h i f =
    let before = take at m in
    let part = take len (drop at m) in
    let behind = drop len (drop at m) in
    let b : at ≡ length before = sym (simp length-take (omega arith)) in
    let l : len ≡ length part = sym (part_length at len m h) in
    let whole : before ++ (part ++ behind) ≡ m = ap (before ++◌) (take-append-drop len (drop at m)) ∙ take-append-drop at m in
    let inside : Inside (length before) (length part) s t = rw (← b, ← l) i in
    record {
      sound = f.sound;
      state =
          ap (λ st. with_memory (before ++ (st.memory ++ behind)) st) f.state
          ∙ sym (advances_inside s t before behind (state_of p log part) inside limit answers)
          ∙ ap (λ w. advance s limit answers (state_of p log w)) whole;
    }
