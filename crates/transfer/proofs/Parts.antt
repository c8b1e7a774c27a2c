-- A transfer in place: one part, and what is left after i bytes.
use mathlib.Core.Path.{◌≡◌, refl, ap, sym, ◌∙◌}
use mathlib.Core.List.{List, ◌++◌}
use Prim.Native.Nat.{ℕ, zero, suc, ◌+◌, ◌-◌, ◌/◌, ◌≤◌, ◌<◌, min}
use native.Mathlib.Omega.{arith}
use native.Mathlib.Nat.{add-zero, add_assoc}
use lib.ListN.{length, take, drop, length-drop}
use lib.Seq.{take-length, take-append-le, drop-append-le, drop-append-add}
use Rattle.model.specs.Steps.{then}
use Rattle.model.specs.State.{State, advance}
use Rattle.model.specs.Frame.{Inside}
use Rattle.model.specs.Steps.End.{done}
use Rattle.model.specs.Steps.Steps.{end}
use Rattle.model.specs.Frame.Inside.{ends, looks}
use Rattle.model.proofs.Frame.{then_inside}
use Rattle.model.proofs.Next.{look_next}
use Rattle.access.specs.declared.progress.Progress.{Progress}
use Rattle.access.specs.Of.{state_of}
use Rattle.access.specs.Does.{Runs}
use Rattle.access.proofs.Sequence.{part_length, runs_part}
use Rattle.access.proofs.Through.{Through, through_more}
use Rattle.qspi.proofs.Windows.{tx_inside, rx_inside}
use Rattle.transfer.specs.Transfer.{transfer_steps, part_steps, parts, in_place_steps}

-- The bytes sent are those of the part.
pub part_runs : {limit : ℕ} {answers : List ℕ} {p r : Progress} {log log' part part' bytes : List ℕ} → bytes ≡ part
    → Runs (transfer_steps bytes 0 (length part)) limit answers p log part r log' part'
    → Runs (part_steps 0 (length part)) limit answers p log part r log' part'
unfolding part_steps
part_runs {limit} {answers} {p} {log = log} {part = part} e f =
    record {
      sound = f.sound;
      state = f.state ∙ sym (look_next _ limit answers (state_of p log part) ∙ ap sending (take-length part ∙ sym e));
    }
  where
    sending : List ℕ → State
    sending bs = advance (transfer_steps bs 0 (length part)) limit answers (state_of p log part)

-- k bytes from index i on, of a memory that stands in a larger one
inner : (before m behind : List ℕ) (i k : ℕ) → i + k ≤ length m
    → take k (drop (length before + i) (before ++ (m ++ behind))) ≡ take k (drop i m)
inner before m behind i k h =
    rw (drop-append-add before (m ++ behind) i, drop-append-le i m behind (omega arith))
    (take-append-le k (drop i m) behind (simp length-drop (omega arith)))

-- A part of a window stands in the whole memory as it stands in the window.
part_inside : (at n i k : ℕ) → i + k ≤ n → Inside at n (part_steps (at + i) k) (part_steps i k)
unfolding part_steps transfer_steps
part_inside at n i k h = looks inside
  where
    inside : (before m behind : List ℕ) → length before ≡ at → length m ≡ n
        → Inside at n (transfer_steps (take k (drop (at + i) (before ++ (m ++ behind)))) (at + i) k)
        (transfer_steps (take k (drop i m)) i k)
    inside before m behind b l =
        rw (← b, inner before m behind i k (omega arith))
        (then_inside (tx_inside _ (take k (drop i m))) (rx_inside i k (omega arith)))

parts_inside : (count at n i k : ℕ) → i + k ≤ n → Inside at n (parts count (at + i) k) (parts count i k)
unfolding parts
parts_inside zero at n i k h = ends done
parts_inside (suc count) at n i k h =
    then_inside (part_inside at n i (min 256 k) (omega arith))
    (rw (add_assoc at i (min 256 k)) (parts_inside count at n (i + min 256 k) (k - min 256 k) (omega arith)))

pub in_place_inside : (at n : ℕ) → Inside at n (in_place_steps at n) (in_place_steps 0 n)
unfolding in_place_steps
in_place_inside at n = rw add-zero at (parts_inside ((n + 255) / 256) at n 0 n (omega arith))

pub in_place_ends : (at : ℕ) → in_place_steps at 0 ≡ end done
unfolding in_place_steps parts
in_place_ends at = refl

parts_next : (i n len : ℕ) → i < n → len ≡ min 256 (n - i)
    → in_place_steps i (n - i) ≡ then (part_steps i len) (in_place_steps (i + len) (n - (i + len)))
unfolding in_place_steps parts
parts_next i n len h e =
    let f : n - i - len ≡ n - (i + len) = omega arith in
    let g : (n - i + 255) / 256 ≡ suc ((n - (i + len) + 255) / 256) = omega arith in
    rw (g, ← e, f) refl

-- the next part exchanged
pub exchanging_more : {buf buf' answers : List ℕ} {limit : ℕ} {p r : Progress} {log log' : List ℕ} {i : ℕ}
    → Through in_place_steps buf limit answers p log r log' buf' i
    → (len : ℕ) {t : Progress} {log'' part' : List ℕ} → i < length buf → len ≡ min 256 (length buf - i)
    → length part' ≡ length (take len (drop i buf'))
    → Runs (part_steps 0 (length (take len (drop i buf')))) limit answers r log' (take len (drop i buf')) t log'' part'
    → Through in_place_steps buf limit answers p log t log''
    (take i buf' ++ (part' ++ drop len (drop i buf'))) (i + len)
exchanging_more {buf} {buf'} {answers} {limit} {r = r} {log' = log'} {i = i} on len {part' = part'} h e k f =
    let s = on.same in
    let l = part_length i len buf' (omega arith) in
    through_more on part' len (omega arith) k
    (on.state ∙ ap (λ s. advance s limit answers (state_of r log' buf')) (parts_next i (length buf) len h e))
    (runs_part (part_steps i len) (part_steps 0 len) i len (omega arith)
    (rw add-zero at (part_inside i len 0 len (omega arith))) (rw l at f))
