-- What the lent log and the lent memory keep.
use mathlib.Core.Path.{◌≡◌, refl, ap, ◌∙◌}
use mathlib.Core.List.{List, [], ◌∷◌}
use Prim.Native.Nat.{ℕ, suc, ◌+◌, ◌*◌, ◌≤◌}
use native.Mathlib.Omega.{arith}
use lib.Dec.{eqb}
use lib.ListN.{length, take, drop, set}
use lib.Seq.{sets, sets-eq, take_at, take-set-le, drop-set-lt}
use Rattle.model.specs.Event.{Event, words, stored}
use Rattle.model.specs.Run.{Outcome}
use Rattle.model.specs.State.{State, room_of, ran, onward, advance}
use Rattle.model.specs.Ends.{Ends, LogWords, Kept, EveryAdvanceKeeps}
use Rattle.model.proofs.Trace.{length_words, length_stored}
use Rattle.model.proofs.Every.{cond_holds}
use Rattle.model.proofs.Ends.{every_run_ends}

pub log_words : LogWords
unfolding stored
log_words t log n h =
    let q : n * 2 + length (words t) ≡ (n + length t) * 2 = omega (arith, length_words t) in
    sets-eq (words t) log (n * 2) (rw q h) ∙ rw q refl

-- words before those stored, and past them
take_sets : (vs l : List ℕ) (i n : ℕ) → n ≤ i → take n (sets l i vs) ≡ take n l
take_sets [] l i n h = refl
take_sets (v ∷ vs) l i n h = take_sets vs (set l i v) (suc i) n (omega arith) ∙ take-set-le n l i v h

drop_sets : (vs l : List ℕ) (i n : ℕ) → i + length vs ≤ n → drop n (sets l i vs) ≡ drop n l
drop_sets [] l i n h = refl
drop_sets (v ∷ vs) l i n h = drop_sets vs (set l i v) (suc i) n (omega arith) ∙ drop-set-lt n l i v (omega arith)

-- Entries leave those before them as they were.
pub before_stored : (t : List Event) (log : List ℕ) (n : ℕ) → take (n * 2) (stored log n t) ≡ take (n * 2) log
unfolding stored
before_stored t log n = take_sets (words t) log (n * 2) (n * 2) (omega arith)

-- The entries of a trace that fits are its words.
pub own_words : (t : List Event) (log : List ℕ) → length t * 2 ≤ length log
    → take (length t * 2) (stored log 0 t) ≡ words t
own_words t log h =
    ap (take (length t * 2)) (log_words t log 0 (omega arith)) ∙ take_at (words t) _ (length t * 2) (length_words t)

kept : (st : State) (o : Outcome) (limit : ℕ) (answers : List ℕ) → Ends limit (room_of st) answers st.memory o → Kept st (ran st o)
unfolding ran stored room_of
kept st o limit ws h =
    let size : length (sets st.log (st.entries * 2) (words o.trace)) ≡ length st.log = length_stored o.trace st.log st.entries in
    record {
      earlier = before_stored o.trace st.log st.entries;
      past = drop_sets (words o.trace) st.log (st.entries * 2) ((st.entries + length o.trace) * 2) (omega (arith, length_words o.trace));
      log = size;
      fits = λ q. omega (arith, h.entries);
      memory = h.size;
    }

pub every_advance_keeps : EveryAdvanceKeeps
unfolding advance onward
every_advance_keeps s limit ws st =
    cond_holds (Kept st) (eqb st.number 0) (kept st _ limit _ (every_run_ends s limit _ _ _))
    (record { earlier = refl; past = refl; log = refl; fits = λ q. q; memory = refl })
