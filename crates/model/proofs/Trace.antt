-- Traces one after the other: their tally, answers, words and what they receive.
use mathlib.Core.Path.{◌≡◌, refl, ap, sym, ◌∙◌}
use mathlib.Core.List.{List, [], ◌∷◌, ◌++◌, append_assoc}
use Prim.Native.Nat.{ℕ, suc, ◌+◌, ◌*◌, ◌≤◌, max}
use native.Mathlib.Omega.{arith}
use native.Mathlib.Nat.{add-zero, zero-add, max-zero, zero-max, add_assoc}
use native.Mathlib.Numerals.{add-one}
use lib.ListN.{length, set}
use lib.Seq.{sets, length-sets}
use Rattle.model.specs.Event.{Event, head_of, value_of, answer_of, answers_of, words, stored}
use Rattle.model.specs.Event.Event.{did, heard, got, polled}
use Rattle.model.specs.Tally.{Tally, none, plus, poll_tally, tally_event, tally_of}

max_assoc : (a b c : ℕ) → max (max a b) c ≡ max a (max b c)
max_assoc a b c = omega arith

pub plus_assoc : (a b c : Tally) → plus (plus a b) c ≡ plus a (plus b c)
unfolding plus
plus_assoc a b c = simp (add_assoc, max_assoc)

pub none_plus : (a : Tally) → plus none a ≡ a
unfolding plus
none_plus a = simp (zero-add, zero-max)

pub plus_none : (a : Tally) → plus a none ≡ a
unfolding plus
plus_none a = simp (add-zero, max-zero)

-- The tally of two traces one after the other is the sum and the larger.
pub tally_append : (s t : List Event) → tally_of (s ++ t) ≡ plus (tally_of s) (tally_of t)
unfolding tally_of
tally_append [] t = sym (none_plus _)
tally_append (e ∷ s) t = ap (plus (tally_event e)) (tally_append s t) ∙ sym (plus_assoc (tally_event e) (tally_of s) (tally_of t))

pub answers_append : (s t : List Event) → answers_of (s ++ t) ≡ answers_of s ++ answers_of t
unfolding answers_of
answers_append [] t = refl
answers_append (e ∷ s) t = ap (answer_of e ++◌) (answers_append s t) ∙ sym (append_assoc (answer_of e) (answers_of s) (answers_of t))

pub length_words : (t : List Event) → length (words t) ≡ length t * 2
unfolding words
length_words [] = refl
length_words (e ∷ t) = omega (arith, length_words t)

words_append : (s t : List Event) → words (s ++ t) ≡ words s ++ words t
unfolding words
words_append [] t = refl
words_append (e ∷ s) t = ap (λ ws. head_of e ∷ value_of e ∷ ws) (words_append s t)

sets_append : (u v l : List ℕ) (i : ℕ) → sets l i (u ++ v) ≡ sets (sets l i u) (i + length u) v
sets_append [] v l i = rw add-zero refl
sets_append (x ∷ u) v l i =
    let q : suc i + length u ≡ i + suc (length u) = omega arith in
    sets_append u v (set l i x) (suc i) ∙ rw q refl

pub stored_append : (s t : List Event) (log : List ℕ) (n : ℕ) → stored log n (s ++ t) ≡ stored (stored log n s) (n + length s) t
unfolding stored
stored_append s t log n =
    let q : n * 2 + length (words s) ≡ (n + length s) * 2 = omega (arith, length_words s) in
    rw words_append (sets_append (words s) (words t) log (n * 2) ∙ rw q refl)

-- one entry is two words
pub stored_entry : (e : Event) (t : List Event) (log : List ℕ) (n : ℕ)
    → stored log n (e ∷ t) ≡ stored (set (set log (n * 2) (head_of e)) (n * 2 + 1) (value_of e)) (n + 1) t
unfolding stored words
stored_entry e t log n =
    let q : suc (suc (n * 2)) ≡ (n + 1) * 2 = omega arith in
    rw (add-one (n * 2), ← q) refl

pub length_stored : (t : List Event) (log : List ℕ) (n : ℕ) → length (stored log n t) ≡ length log
unfolding stored
length_stored t log n = length-sets log (n * 2) (words t)

one_poll : (e : Event) → (tally_event e).polls ≤ 1
unfolding poll_tally tally_event
one_poll (did a) = omega arith
one_poll (heard q x) = omega arith
one_poll (got i x) = omega arith
one_poll (polled c n x) = omega arith

-- no more polls than entries
pub polls_entries : (t : List Event) → (tally_of t).polls ≤ length t
unfolding plus tally_of
polls_entries [] = omega arith
polls_entries (e ∷ t) = omega (arith, one_poll e, polls_entries t)
