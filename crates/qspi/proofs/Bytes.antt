-- The loops that move bytes: what is left to do after i bytes.
use mathlib.Core.Path.{◌≡◌, refl, ap, sym, ◌∙◌}
use mathlib.Core.List.{List, ◌++◌, map}
use Prim.Native.Nat.{ℕ, suc, ◌+◌, ◌-◌, ◌≤◌, ◌<◌, min}
use native.Mathlib.Omega.{arith}
use native.Mathlib.Nat.{add-zero}
use native.Mathlib.Numerals.{add-one}
use lib.ListN.{length, get_or, set, take, drop, drop_of_length-le, length-set, length-map, length-drop}
use lib.Seq.{drop-cons, drop-drop}
use lib.Dec.{ltb}
use borrow.Author.Tests.{ltb-true}
use Rattle.model.specs.Wait.{Cause, ready, count_of}
use Rattle.model.specs.Wait.Cause.{space, received}
use Rattle.model.specs.Event.{said}
use Rattle.model.specs.Event.Act.{send}
use Rattle.model.specs.Event.Ask.{byte}
use Rattle.model.specs.Steps.{Steps, then}
use Rattle.model.specs.Steps.End.{done}
use Rattle.model.specs.Steps.Steps.{end, act, ask, get, wait}
use Rattle.model.specs.State.{State, advance}
use Rattle.model.proofs.Advance.{onto, ended, skipped}
use Rattle.model.proofs.Next.{get_stored, get_stopped}
use Rattle.access.specs.declared.progress.Progress.{Progress}
use Rattle.access.specs.Of.{state_of, number_in}
use Rattle.access.specs.Does.{Sound, Works, Does, Runs, Gets}
use Rattle.qspi.specs.Phases.{Move, moved, moved_all, paced, gots}
use Rattle.qspi.specs.Phases.Move.{sent}
use Rattle.waits.specs.Does.{Waits}
use Rattle.qspi.proofs.Paced.{portion, paced_wait, portion_part, take_sent, drop_sent, length_gots, take_gots, drop_gots, all_inside}
use Rattle.access.proofs.Sequence.{part_length, runs_part}
use Rattle.access.proofs.Through.{Through, through_more}

works : {s : Steps} {answers : List ℕ} {p r : Progress} {log log' : List ℕ} → Sound r
    → ((limit : ℕ) (m : List ℕ) → state_of r log' m ≡ advance s limit answers (state_of p log m))
    → Works s answers p log r log'
works f e = record { sound = f; does = λ limit. record { sound = f; state = e limit } }

-- sending with no wait, after i bytes
pub record Sending (bytes answers : List ℕ) (p : Progress) (log : List ℕ) (r : Progress) (log' : List ℕ)
    (i : ℕ) : Type 0 where
  pub within : i ≤ length bytes
  pub sound : Sound r
  pub state : (limit : ℕ) (m : List ℕ)
      → advance (moved_all (map sent bytes)) limit answers (state_of p log m) ≡ advance (moved_all (map sent (drop i bytes))) limit answers (state_of r log' m)

sends_next : (bytes : List ℕ) (i : ℕ) → i < length bytes
    → moved_all (map sent (drop i bytes)) ≡ then (act (send (get_or bytes i 0)) (end done)) (moved_all (map sent (drop (i + 1) bytes)))
unfolding moved_all moved then
sends_next bytes i h = rw (drop-cons bytes i 0 h, add-one) refl

pub sending_starts : (bytes answers : List ℕ) (p : Progress) (log : List ℕ) → Sound p
    → Sending bytes answers p log p log 0
sending_starts bytes answers p log few = record { within = omega arith; sound = few; state = λ l m. refl }

module _ {bytes answers : List ℕ} {p r : Progress} {log log' : List ℕ} {i : ℕ}
    (on : Sending bytes answers p log r log' i) where
  pub sending_more : {t : Progress} {log'' : List ℕ} → i < length bytes
      → Works (act (send (get_or bytes i 0)) (end done)) answers r log' t log''
      → Sending bytes answers p log t log'' (i + 1)
  sending_more h a =
      record {
        within = omega arith;
        sound = a.sound;
        state = λ l m.
            onto _ _ l answers (state_of r log' m)
            (on.state l m ∙ ap (λ s. advance s l answers (state_of r log' m)) (sends_next bytes i h))
            ((a.does l).state m);
      }

  pub sending_stops : {t : Progress} {log'' : List ℕ} → i < length bytes
      → Works (act (send (get_or bytes i 0)) (end done)) answers r log' t log''
      → (number_in t ≡ 0 → ⊥) → Works (moved_all (map sent bytes)) answers p log t log''
  sending_stops {t} {log''} h a n =
      works a.sound (λ l m. sym ((sending_more h a).state l m ∙ skipped _ l answers (state_of t log'' m) n))

  pub sending_done : length bytes ≤ i → Works (moved_all (map sent bytes)) answers p log r log'
  unfolding moved_all
  sending_done h =
      works on.sound (λ l m. sym (on.state l m ∙ rw (drop_of_length-le bytes h) (ended l answers (state_of r log' m))))

-- receiving with no wait, after i bytes, into the memory that was `buf` and is `buf'` now
pub record Getting (buf answers : List ℕ) (p : Progress) (log : List ℕ) (r : Progress) (log' buf' : List ℕ) (i : ℕ) : Type 0 where
  pub same : length buf' ≡ length buf
  pub within : i ≤ length buf
  pub sound : Sound r
  pub state : (limit : ℕ)
      → advance (moved_all (gots 0 (length buf))) limit answers (state_of p log buf)
      ≡ advance (moved_all (gots i (length buf - i))) limit answers (state_of r log' buf')

pub getting_starts : (buf answers : List ℕ) (p : Progress) (log : List ℕ) → Sound p → Getting buf answers p log p log buf 0
getting_starts buf answers p log few =
    let e : length buf - 0 ≡ length buf = omega arith in
    record { same = refl; within = omega arith; sound = few; state = λ l. rw e refl }

gets_next : (i n : ℕ) → i < n → moved_all (gots i (n - i)) ≡ get i (moved_all (gots (i + 1) (n - (i + 1))))
unfolding moved_all moved gots
gets_next i n h = let e : n - i ≡ suc (n - (i + 1)) = omega arith in rw e refl

module _ {buf buf' answers : List ℕ} {p r : Progress} {log log' : List ℕ} {i : ℕ} (on : Getting buf answers p log r log' buf' i)
    {t : Progress} {log'' : List ℕ} {word : ℕ} (h : i < length buf)
    (a : Works (ask byte (λ x. end done)) answers r log' t log'')
    (says : number_in t ≡ 0 → word ≡ said byte (get_or answers r.taken 0)) where
  at_next : (limit : ℕ)
      → advance (moved_all (gots 0 (length buf))) limit answers (state_of p log buf)
      ≡ advance (get i (moved_all (gots (i + 1) (length buf - (i + 1))))) limit answers (state_of r log' buf')
  at_next limit = on.state limit ∙ ap (λ s. advance s limit answers (state_of r log' buf')) (gets_next i (length buf) h)

  pub getting_more : number_in t ≡ 0 → Getting buf answers p log t log'' (set buf' i word) (i + 1)
  getting_more z =
      record {
        same = simp length-set on.same;
        within = omega arith;
        sound = a.sound;
        state = λ limit. at_next limit ∙ get_stored i _ limit answers _ _ word ((a.does limit).state buf') says z;
      }

  pub getting_stops : (number_in t ≡ 0 → ⊥) → Gets (moved_all (gots 0 (length buf))) answers p log buf t log'' buf'
  getting_stops n =
      record {
        sound = a.sound;
        runs = λ limit.
            record {
              sound = a.sound;
              state = sym (at_next limit ∙ get_stopped i _ limit answers _ _ word ((a.does limit).state buf') says n);
            };
      }

pub getting_done : {buf buf' answers : List ℕ} {p r : Progress} {log log' : List ℕ} {i : ℕ} → Getting buf answers p log r log' buf' i
    → length buf ≤ i → Gets (moved_all (gots 0 (length buf))) answers p log buf r log' buf'
unfolding moved_all gots
getting_done {buf} {answers = answers} {i = i} on h =
    let e : length buf - i ≡ 0 = omega arith in
    record { sound = on.sound; runs = λ limit. record { sound = on.sound; state = sym (on.state limit ∙ rw e (ended limit answers _)) } }

-- A wait for a portion of some moves, and the portion.
module _ (c : Cause) (xs : List Move) (some : 0 < length xs) (limit : ℕ) (answers : List ℕ) (st st₁ st₂ : State) (count : ℕ)
    (on : st ≡ advance (paced c 0 xs) limit answers st₁)
    (waited : (k : ℕ → Steps) → advance (wait c k (end done)) limit answers st₁ ≡ advance (k count) limit answers st₂) where
  waited_portion : st ≡ advance (portion c xs count) limit answers st₂
  waited_portion = on ∙ ap (λ s. advance s limit answers st₁) (paced_wait c xs some) ∙ waited (portion c xs)

  portion_stops : (st₂.number ≡ 0 → ⊥) → st ≡ st₂
  portion_stops n = waited_portion ∙ skipped (portion c xs count) limit answers st₂ n

  portion_goes : 0 < count → st ≡ advance (then (moved_all (take (min count (length xs)) xs)) (paced c 0 (drop (min count (length xs)) xs))) limit answers st₂
  portion_goes h = waited_portion ∙ ap (λ s. advance s limit answers st₂) (portion_part c count xs h some)

-- a wait that is for a count ends with some
pub some_count : {c : Cause} {limit : ℕ} {answers : List ℕ} {p r : Progress} {log log' : List ℕ} {count : ℕ}
    → ((word : ℕ) → ready c word ≡ ltb 0 (count_of c word)) → Waits c limit answers p log r log' count → number_in r ≡ 0
    → 0 < count
some_count e w z = rw (w.counts z).2 (ltb-true _ _ (sym (e _) ∙ (w.counts z).1))

-- writing, after i bytes
pub record Writing (bytes : List ℕ) (limit : ℕ) (answers : List ℕ) (p : Progress) (log : List ℕ) (r : Progress) (log' : List ℕ) (i : ℕ) : Type 0 where
  pub within : i ≤ length bytes
  pub sound : Sound r
  pub state : (m : List ℕ)
      → advance (paced space 0 (map sent bytes)) limit answers (state_of p log m)
      ≡ advance (paced space 0 (map sent (drop i bytes))) limit answers (state_of r log' m)

pub writing_starts : (bytes : List ℕ) (limit : ℕ) (answers : List ℕ) (p : Progress) (log : List ℕ) → Sound p → Writing bytes limit answers p log p log 0
writing_starts bytes limit answers p log few = record { within = omega arith; sound = few; state = λ m. refl }

length_sends : (bytes : List ℕ) (i : ℕ) → length (map sent (drop i bytes)) ≡ length bytes - i
length_sends bytes i = length-map (drop i bytes) sent ∙ length-drop i bytes

sends_portion : (bytes : List ℕ) (i n len : ℕ) → len ≡ min n (length bytes - i)
    → then (moved_all (take (min n (length (map sent (drop i bytes)))) (map sent (drop i bytes))))
    (paced space 0 (drop (min n (length (map sent (drop i bytes)))) (map sent (drop i bytes))))
    ≡ then (moved_all (map sent (take len (drop i bytes)))) (paced space 0 (map sent (drop (i + len) bytes)))
sends_portion bytes i n len e = rw (length_sends bytes i, ← e, take_sent, drop_sent, drop-drop) refl

module _ {bytes answers : List ℕ} {limit : ℕ} {p r t : Progress} {log log' log'' : List ℕ} {i count : ℕ}
    (on : Writing bytes limit answers p log r log' i) (h : i < length bytes) (w : Waits space limit answers r log' t log'' count) where
  more : 0 < length (map sent (drop i bytes))
  more = rw (length_sends bytes i) (omega arith)

  pub writing_stops : (number_in t ≡ 0 → ⊥) → Does (paced space 0 (map sent bytes)) limit answers p log t log''
  writing_stops n =
      record { sound = w.sound; state = λ m. sym (portion_stops space _ more limit answers _ _ (state_of t log'' m) count (on.state m) (w.state m) n) }

  pub writing_more : {u : Progress} {log''' : List ℕ} {len : ℕ} → number_in t ≡ 0 → len ≡ min count (length bytes - i)
      → Works (moved_all (map sent (take len (drop i bytes)))) answers t log'' u log'''
      → Writing bytes limit answers p log u log''' (i + len)
  writing_more {len = len} z e a =
      record {
        within = omega arith;
        sound = a.sound;
        state = λ m.
            onto _ _ limit answers (state_of t log'' m)
            (portion_goes space _ more limit answers _ _ (state_of t log'' m) count (on.state m) (w.state m) (some_count (λ _. refl) w z)
            ∙ ap (λ s. advance s limit answers (state_of t log'' m)) (sends_portion bytes i count len e))
            ((a.does limit).state m);
      }

pub writing_done : {bytes answers : List ℕ} {limit : ℕ} {p r : Progress} {log log' : List ℕ} {i : ℕ} → Writing bytes limit answers p log r log' i
    → length bytes ≤ i → Does (paced space 0 (map sent bytes)) limit answers p log r log'
unfolding paced
writing_done {bytes} {answers} {limit} {r = r} {log' = log'} on h =
    record { sound = on.sound; state = λ m. sym (on.state m ∙ rw (drop_of_length-le bytes h) (ended limit answers (state_of r log' m))) }

-- stopped on the way
pub writing_cut : {bytes answers : List ℕ} {limit : ℕ} {p r : Progress} {log log' : List ℕ} {i : ℕ}
    → Writing bytes limit answers p log r log' i
    → (number_in r ≡ 0 → ⊥) → Does (paced space 0 (map sent bytes)) limit answers p log r log'
writing_cut {bytes} {answers} {limit} {r = r} {log' = log'} on n =
    record { sound = on.sound; state = λ m. sym (on.state m ∙ skipped _ limit answers (state_of r log' m) n) }

-- reading n bytes to the memory from index `at` on
abbrev pub reading : ℕ → ℕ → Steps
reading at n = paced received 0 (gots at n)

pub reading_ends : (at : ℕ) → reading at 0 ≡ end done
unfolding paced gots
reading_ends at = refl

gots_portion : (i n k len : ℕ) → len ≡ min k (n - i)
    → then (moved_all (take (min k (length (gots i (n - i)))) (gots i (n - i)))) (paced received 0 (drop (min k (length (gots i (n - i)))) (gots i (n - i))))
    ≡ then (moved_all (gots i len)) (paced received 0 (gots (i + len) (n - (i + len))))
gots_portion i n k len e =
    let f : n - i - len ≡ n - (i + len) = omega arith in
    rw (length_gots i (n - i), ← e, take_gots len i (n - i) (omega arith), drop_gots len i (n - i), f) refl

-- the bytes of a part, placed in the whole
portion_inside : {limit : ℕ} {answers : List ℕ} {t u : Progress} {log'' log''' buf part' : List ℕ} (i len : ℕ) → i + len ≤ length buf
    → Gets (moved_all (gots 0 (length (take len (drop i buf))))) answers t log'' (take len (drop i buf)) u log''' part'
    → Runs (moved_all (gots i len)) limit answers t log'' buf u log''' (take i buf ++ (part' ++ drop len (drop i buf)))
portion_inside {limit} {answers} {t} {u} {log''} {log'''} {buf} {part'} i len h g =
    let l = part_length i len buf h in
    runs_part (moved_all (gots i len)) (moved_all (gots 0 len)) i len h (rw add-zero at (all_inside i len 0 len (omega arith))) (rw l at (g.runs limit))

module _ {buf buf' answers : List ℕ} {limit : ℕ} {p r t : Progress} {log log' log'' : List ℕ} {i count : ℕ}
    (on : Through reading buf limit answers p log r log' buf' i) (h : i < length buf) (w : Waits received limit answers r log' t log'' count) where
  more_left : 0 < length (gots i (length buf - i))
  more_left = rw length_gots (omega arith)

  pub reading_stops : (number_in t ≡ 0 → ⊥)
      → Runs (paced received 0 (gots 0 (length buf))) limit answers p log buf t log'' buf'
  reading_stops n =
      record {
        sound = w.sound;
        state = sym (portion_stops received _ more_left limit answers _ _ (state_of t log'' buf') count on.state (w.state buf') n);
      }

  pub reading_more : {u : Progress} {log''' part' : List ℕ} {len : ℕ} → number_in t ≡ 0
      → len ≡ min count (length buf - i)
      → length part' ≡ length (take len (drop i buf'))
      → Gets (moved_all (gots 0 (length (take len (drop i buf'))))) answers t log'' (take len (drop i buf')) u log''' part'
      → Through reading buf limit answers p log u log''' (take i buf' ++ (part' ++ drop len (drop i buf'))) (i + len)
  reading_more {part' = part'} {len = len} z e k g =
      let s = on.same in
      through_more on part' len (omega arith) k
      (portion_goes received _ more_left limit answers _ _ (state_of t log'' buf') count on.state (w.state buf') (some_count (λ _. refl) w z)
      ∙ ap (λ s. advance s limit answers (state_of t log'' buf')) (gots_portion i (length buf) count len e))
      (portion_inside i len (omega arith) g)
