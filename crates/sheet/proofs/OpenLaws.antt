-- What opening gives: refused where a test fails, else the header; and the words that fill a buffer.
use Prim.Native.Nat.{ℕ, zero, suc, ◌+◌, ◌*◌, ◌/◌, ◌≤◌, ◌<◌}
use mathlib.Core.Path.{◌≡◌, refl, sym, ap, ◌∙◌}
use mathlib.Core.Bool.{Bool, true, false}
use mathlib.Core.List.{List, [], ◌∷◌, ◌++◌, append_assoc}
use Rattle.std.proofs.Common.{Some, None}
use native.Mathlib.Numerals.{add-one}
use native.Mathlib.Omega.{arith}
use lib.ListN.{length, get_or, take, drop, set}
use lib.Seq.{drop-cons, set_at}
use Rattle.std.specs.Int.{w32, from_le_bytes}
use Rattle.std.specs.Simd.{first_chunks}
use Rattle.sheet.specs.Words.{word_at, words}
use Rattle.sheet.specs.Sheet.{refused, accepted, sheet_of, judged, parse}
use Rattle.sheet.specs.Open.{header_of, answered, opened}
use Rattle.sheet.specs.declared.Header.{Header}
use Rattle.sheet.proofs.SheetLaws.{Accepted, accepted_is, is_accepted}
use Rattle.sheet.proofs.WordLaws.{words_length, words_snoc, word_at_drop}

pub refuse : (bs : List ℕ) → (Accepted bs → ⊥) → None ≡ opened bs
unfolding opened
refuse bs no' = go (accepted bs) refl
  where
    go : (b : Bool) → accepted bs ≡ b → None ≡ answered b (header_of bs)
    go true e = absurd (no' (accepted_is bs e))
    go false e = refl

pub accept : (bs : List ℕ) → Accepted bs → Some (header_of bs) ≡ opened bs
unfolding opened
accept bs ok = rw (is_accepted bs ok)

-- a word is its four bytes, the least significant first
word_taken : (bs : List ℕ) → from_le_bytes w32 (take 4 bs) ≡ word_at bs 0
word_taken [] = refl
word_taken (a ∷ []) = omega arith
word_taken (a ∷ b ∷ []) = omega arith
word_taken (a ∷ b ∷ c ∷ []) = omega arith
word_taken (a ∷ b ∷ c ∷ d ∷ t) = omega arith

chunk_word :
    (n i : ℕ) (bs : List ℕ)
    → i < n
    → from_le_bytes w32 (get_or (first_chunks 4 n bs) i []) ≡ word_at bs (4 * i)
chunk_word zero i bs h = absurd (omega arith)
chunk_word (suc n) zero bs h = word_taken bs
chunk_word (suc n) (suc i) bs h =
    let e : 4 + 4 * i ≡ 4 * suc i = omega arith in
    chunk_word n i (drop 4 bs) (omega arith) ∙ word_at_drop 4 bs (4 * i) ∙ ap (word_at bs) e

-- word i of the bytes, read from their pieces of four
pub word_in :
    (bs : List ℕ) {ws : List (List ℕ)}
    → ws ≡ first_chunks 4 (length bs / 4) bs
    → (i : ℕ) {w : ℕ}
    → 4 * i + 4 ≤ length bs
    → w ≡ from_le_bytes w32 (get_or ws i []) → w ≡ word_at bs (4 * i)
word_in bs e i h f =
    f
    ∙ ap (λ (l : List (List ℕ)). from_le_bytes w32 (get_or l i [])) e
    ∙ chunk_word (length bs / 4) i bs (omega arith)

-- a buffer ys that is filled with words: one word more
put_next :
    (p l : List ℕ) (i a : ℕ)
    → length p ≡ i
    → i < length l
    → set (p ++ drop i l) i a ≡ (p ++ (a ∷ [])) ++ drop (i + 1) l
put_next p l i a e h = rw (add-one, append_assoc, drop-cons l i 0) (set_at p _ _ a i e)

pub filled_more :
    (bs ys : List ℕ) (i : ℕ)
    → i < length ys
    → set (words i bs ++ drop i ys) i (word_at bs (4 * i)) ≡ words (i + 1) bs ++ drop (i + 1) ys
filled_more bs ys i h =
    put_next (words i bs) ys i (word_at bs (4 * i)) (words_length i bs) h
    ∙ ap (λ (l : List ℕ). l ++ drop (i + 1) ys) (rw (add-one i) (sym (words_snoc i bs)))

-- what an accepted header says
pub opened_is : (bs : List ℕ) (h : Header) → opened bs ≡ Some h → Accepted bs × (h ≡ header_of bs)
unfolding opened
opened_is bs h e = go (accepted bs) refl e
  where
    go : (b : Bool) → accepted bs ≡ b → answered b (header_of bs) ≡ Some h → Accepted bs × (h ≡ header_of bs)
    go true q p = (accepted_is bs q, cc)
    go false q p = let z : ◌≡◌ {A = ℕ} 0 1 = cc in absurd (omega arith)

-- what a refusal says
pub refused_is : (bs : List ℕ) → opened bs ≡ None → parse bs ≡ refused
unfolding opened parse
refused_is bs e = go (accepted bs) refl e
  where
    go : (b : Bool) → accepted bs ≡ b → answered b (header_of bs) ≡ None → judged (accepted bs) (sheet_of bs) ≡ refused
    go true q p = let z : ◌≡◌ {A = ℕ} 0 1 = cc in absurd (omega arith)
    go false q p = rw q
