-- Steps on a part of the memory run as on the whole.
use mathlib.Core.Path.{◌≡◌, refl, ap, ap₂, ◌∙◌}
use mathlib.Core.Bool.{Bool, true, false, cond}
use mathlib.Core.List.{List, [], ◌∷◌, ◌++◌, map}
use Prim.Native.Nat.{ℕ, ◌+◌, ◌<◌}
use native.Mathlib.Nat.{zero-add, suc-add}
use lib.Dec.{eqb}
use lib.ListN.{length, set, drop, length-set, length-map}
use lib.Seq.{set-append_left}
use Rattle.model.specs.Event.{Event, said, head_of, value_of, answer_of, answers_of, receive, words, stored}
use Rattle.model.specs.Event.Ask.{byte}
use Rattle.model.specs.Event.Event.{did, heard, got, polled}
use Rattle.model.specs.Tally.{plus, tally_event, tally_of}
use Rattle.model.specs.Steps.{Steps, then, finally}
use Rattle.model.specs.Steps.End.{done, unsupported}
use Rattle.model.specs.Run.{Outcome, after, run}
use Rattle.model.specs.State.{State, with_memory, room_of, ran, onward, advance}
use Rattle.model.specs.Frame.{Inside, shifted, within, RunsInside, AdvancesInside}
use Rattle.model.specs.Frame.Inside.{ends, acts, asks, gets, looks, waits}
use Rattle.model.proofs.Carries.{Carries, entered_carries, answered_carries, poll_carries}

-- a byte stored in the part
set_inside : (before m behind : List ℕ) (i b : ℕ) → i < length m
    → set (before ++ (m ++ behind)) (length before + i) b ≡ before ++ (set m i b ++ behind)
set_inside [] m behind i b h = rw zero-add (set-append_left m behind i b h)
set_inside (x ∷ before) m behind i b h = rw suc-add (ap (x ∷◌) (set_inside before m behind i b h))

module _ (before behind : List ℕ) where
  abbrev Frames : Outcome → Outcome → Type 0
  Frames o o' = o' ≡ within before behind o

  frames_after : (e e' : Event) → e' ≡ shifted (length before) e → (o o' : Outcome) → Frames o o' → Frames (after e o) (after e' o')
  frames_after e e' q o o' h = ap₂ after q h

  frames : (m : List ℕ) → Carries Frames m (before ++ (m ++ behind))
  frames m = record { ten = λ ws. refl; eleven = λ r. refl; polls = λ c n x. frames_after (polled c n x) _ refl }

  framed : {at n : ℕ} {s t : Steps} → Inside at n s t → (m : List ℕ) → length before ≡ at → length m ≡ n
      → (limit : ℕ) (late : Bool) (r : ℕ) (ws : List ℕ)
      → run s limit late r ws (before ++ (m ++ behind)) ≡ within before behind (run t limit late r ws m)
  unfolding run receive
  framed (ends e) m p q l b r ws = refl
  framed (acts a h) m p q l b r ws =
      entered_carries (frames m) (did a) (did a) (frames_after (did a) _ refl) r ws _ _ (λ r'. framed h m p q l b r' ws)
  framed (asks x h) m p q l b r ws =
      answered_carries (frames m) _ _ (λ y. frames_after (heard x y) _ refl) r ws _ _ (λ y r' ws'. framed (h _) m p q l b r' ws')
  framed (gets {i} {j} {s} {t} e lt h) m p q l b r ws =
      answered_carries (frames m) (got j) (got i) (λ y. frames_after (got j y) (got i y) (ap (λ k. got k y) place)) r ws _ _
      (λ y r' ws'. rw (place, set_inside before m behind j (said byte y) (rw q lt)) (framed h (set m j _) p (length-set m j _ ∙ q) l b r' ws'))
    where
      place : i ≡ length before + j
      place = e ∙ rw p
  framed (looks h) m p q l b r ws = framed (h before m behind p q) m p q l b r ws
  framed (waits c h i) m p q l b r ws =
      poll_carries (frames m) c _ _ _ _ (λ x r' ws'. framed (h x) m p q l b r' ws') (λ r' ws'. framed i m p q l true r' ws') l 0 r ws

pub runs_inside : RunsInside
runs_inside s t before m behind h limit late r ws = framed before behind h m refl refl limit late r ws

-- Shifting the places where bytes are stored changes nothing else of a trace.
module _ (at : ℕ) where
  answer_shifted : (e : Event) → answer_of (shifted at e) ≡ answer_of e
  unfolding answer_of
  answer_shifted (did a) = refl
  answer_shifted (heard q x) = refl
  answer_shifted (got i x) = refl
  answer_shifted (polled c n x) = refl

  answers_shifted : (t : List Event) → answers_of (map (shifted at) t) ≡ answers_of t
  unfolding answers_of
  answers_shifted [] = refl
  answers_shifted (e ∷ t) = ap₂ ◌++◌ (answer_shifted e) (answers_shifted t)

  one_shifted : (e : Event) → tally_event (shifted at e) ≡ tally_event e
  unfolding tally_event
  one_shifted (did a) = refl
  one_shifted (heard q x) = refl
  one_shifted (got i x) = refl
  one_shifted (polled c n x) = refl

  tally_shifted : (t : List Event) → tally_of (map (shifted at) t) ≡ tally_of t
  unfolding tally_of
  tally_shifted [] = refl
  tally_shifted (e ∷ t) = ap₂ plus (one_shifted e) (tally_shifted t)

  entry_shifted : (e : Event) (ws : List ℕ) → head_of (shifted at e) ∷ value_of (shifted at e) ∷ ws ≡ head_of e ∷ value_of e ∷ ws
  unfolding head_of value_of
  entry_shifted (did a) ws = refl
  entry_shifted (heard q x) ws = refl
  entry_shifted (got i x) ws = refl
  entry_shifted (polled c n x) ws = refl

  words_shifted : (t : List Event) → words (map (shifted at) t) ≡ words t
  unfolding words
  words_shifted [] = refl
  words_shifted (e ∷ t) = entry_shifted e _ ∙ ap (λ ws. head_of e ∷ value_of e ∷ ws) (words_shifted t)

ran_within : (before behind : List ℕ) (st : State) (o : Outcome)
    → ran (with_memory (before ++ (st.memory ++ behind)) st) (within before behind o) ≡ with_memory (before ++ ((ran st o).memory ++ behind)) (ran st o)
unfolding ran stored
ran_within before behind st o = simp (length-map, answers_shifted, tally_shifted, words_shifted)

pub advances_inside : AdvancesInside
unfolding advance onward room_of
advances_inside s t before behind st h limit ws = by (eqb st.number 0)
  where
    o : Outcome
    o = run t limit false (room_of st) (drop st.taken ws) st.memory

    whole : State
    whole = with_memory (before ++ (st.memory ++ behind)) st

    o' : Outcome
    o' = run s limit false (room_of st) (drop st.taken ws) (before ++ (st.memory ++ behind))

    by : (b : Bool) → cond b (ran whole o') whole ≡ with_memory (before ++ ((cond b (ran st o) st).memory ++ behind)) (cond b (ran st o) st)
    by true = ap (ran whole) (runs_inside s t before st.memory behind h limit false _ _) ∙ ran_within before behind st o
    by false = refl

-- One behind the other, and whatever the first ended with.
module _ {at n : ℕ} where
  pub then_inside : {s s' t t' : Steps} → Inside at n s s' → Inside at n t t' → Inside at n (then s t) (then s' t')
  unfolding then
  then_inside (ends done) j = j
  then_inside (ends unsupported) j = ends unsupported
  then_inside (acts a h) j = acts a (then_inside h j)
  then_inside (asks q h) j = asks q (λ x. then_inside (h x) j)
  then_inside (gets e lt h) j = gets e lt (then_inside h j)
  then_inside (looks h) j = looks (λ b m a p q. then_inside (h b m a p q) j)
  then_inside (waits c h i) j = waits c (λ x. then_inside (h x) j) i

  pub finally_inside : {s s' t t' : Steps} → Inside at n s s' → Inside at n t t' → Inside at n (finally s t) (finally s' t')
  unfolding finally
  finally_inside (ends e) j = then_inside j (ends e)
  finally_inside (acts a h) j = acts a (finally_inside h j)
  finally_inside (asks q h) j = asks q (λ x. finally_inside (h x) j)
  finally_inside (gets e lt h) j = gets e lt (finally_inside h j)
  finally_inside (looks h) j = looks (λ b m a p q. finally_inside (h b m a p q) j)
  finally_inside (waits c h i) j = waits c (λ x. finally_inside (h x) j) (finally_inside i j)
