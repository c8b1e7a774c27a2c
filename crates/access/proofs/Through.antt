-- A loop that goes through a lent memory part by part.
use mathlib.Core.Path.{◌≡◌, refl, sym, ◌∙◌}
use mathlib.Core.List.{List, ◌++◌}
use Prim.Native.Nat.{ℕ, ◌+◌, ◌-◌, ◌≤◌}
use native.Mathlib.Omega.{arith}
use lib.ListN.{length, take, drop, length-append, length-take, length-drop}
use Rattle.model.specs.Steps.{Steps, then}
use Rattle.model.specs.Steps.End.{done}
use Rattle.model.specs.Steps.Steps.{end}
use Rattle.model.specs.State.{advance}
use Rattle.model.proofs.Advance.{onto, ended, skipped}
use Rattle.access.specs.declared.progress.Progress.{Progress}
use Rattle.access.specs.Of.{state_of, number_in}
use Rattle.access.specs.Does.{Sound, Runs}
use Rattle.access.proofs.Sequence.{part_length}

-- What is left after i bytes of the memory that was `buf` and is `buf'` now; `f at n` are the steps on n bytes from index `at` on.
pub record Through (f : ℕ → ℕ → Steps) (buf : List ℕ) (limit : ℕ) (answers : List ℕ) (p : Progress) (log : List ℕ) (r : Progress) (log' buf' : List ℕ) (i : ℕ)
    : Type 0 where
  pub same : length buf' ≡ length buf
  pub within : i ≤ length buf
  pub sound : Sound r
  pub state : advance (f 0 (length buf)) limit answers (state_of p log buf) ≡ advance (f i (length buf - i)) limit answers (state_of r log' buf')

pub through_starts : (f : ℕ → ℕ → Steps) (buf : List ℕ) (limit : ℕ) (answers : List ℕ) (p : Progress) (log : List ℕ) → Sound p
    → Through f buf limit answers p log p log buf 0
through_starts f buf limit answers p log few =
    let e : length buf - 0 ≡ length buf = omega arith in
    record { same = refl; within = omega arith; sound = few; state = rw e refl }

module _ {f : ℕ → ℕ → Steps} {buf buf' answers : List ℕ} {limit : ℕ} {p r : Progress} {log log' : List ℕ} {i : ℕ}
    (on : Through f buf limit answers p log r log' buf' i) where
  pub through_stops : (number_in r ≡ 0 → ⊥) → Runs (f 0 (length buf)) limit answers p log buf r log' buf'
  through_stops n = record { sound = on.sound; state = sym (on.state ∙ skipped _ limit answers _ n) }

  pub through_done : ((at : ℕ) → f at 0 ≡ end done) → length buf ≤ i → Runs (f 0 (length buf)) limit answers p log buf r log' buf'
  through_done none h =
      let e : length buf - i ≡ 0 = omega arith in
      record { sound = on.sound; state = sym (on.state ∙ rw (e, none i) (ended limit answers _)) }

  -- the steps `s` on the next part, from the progress q on
  pub through_more : {s : Steps} {q t : Progress} {log'' log''' : List ℕ} (part' : List ℕ) (len : ℕ) → i + len ≤ length buf → length part' ≡ length (take len (drop i buf'))
      → advance (f 0 (length buf)) limit answers (state_of p log buf)
      ≡ advance (then s (f (i + len) (length buf - (i + len)))) limit answers (state_of q log'' buf')
      → Runs s limit answers q log'' buf' t log''' (take i buf' ++ (part' ++ drop len (drop i buf')))
      → Through f buf limit answers p log t log''' (take i buf' ++ (part' ++ drop len (drop i buf'))) (i + len)
  through_more {q = q} {log'' = log''} part' len h k e d =
      let s = on.same in
      let l = part_length i len buf' (omega arith) in
      record {
        same = simp (length-append, length-take, length-drop) (omega arith);
        within = omega arith;
        sound = d.sound;
        state = onto _ _ limit answers (state_of q log'' buf') e d.state;
      }
