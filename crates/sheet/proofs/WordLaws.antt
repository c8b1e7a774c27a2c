-- Words and their bytes: `words` and `spell` are inverse, and one more word is one more at the end.
use Prim.Native.Nat.{ℕ, zero, suc, ◌+◌, ◌*◌, ◌/◌, ◌%◌, ◌≤◌, ◌<◌, ◌^◌}
use mathlib.Core.Path.{◌≡◌, refl, ap, ap₂, ◌∙◌}
use mathlib.Core.List.{List, [], ◌∷◌, ◌++◌}
use mathlib.Core.Bool.{Bool, true, false, ◌&&◌}
use native.Mathlib.Omega.{arith}
use lib.Dec.{ltb}
use borrow.Author.Tests.{ltb-true}
use native.Mathlib.Nat.{add_assoc}
use lib.ListN.{length, get_or, take, drop}
use lib.Seq.{get_or-drop}
use Rattle.sheet.specs.Words.{word, word_at, words, bytes_of, spell, Below}

pub words_length : (n : ℕ) (bs : List ℕ) → length (words n bs) ≡ n
words_length zero bs = refl
words_length (suc n) bs = ap suc (words_length n (drop 4 bs))

pub spell_length : (ws : List ℕ) → length (spell ws) ≡ 4 * length ws
spell_length [] = refl
spell_length (w ∷ ws) = omega (arith, spell_length ws)

pub spell_append : (xs ys : List ℕ) → spell (xs ++ ys) ≡ spell xs ++ spell ys
spell_append [] ys = refl
spell_append (x ∷ xs) ys = ap (λ (l : List ℕ). bytes_of x ++ l) (spell_append xs ys)

-- a word is what its bytes spell
pub word_bytes : (w : ℕ) → w < 2 ^ 32 → word (w % 256) (w / 256 % 256) (w / 256 / 256 % 256) (w / 256 / 256 / 256 % 256) ≡ w
word_bytes w h = omega arith

-- and bytes are those of the word that they spell
pub bytes_word : (a b c d : ℕ) → a < 256 → b < 256 → c < 256 → d < 256 → bytes_of (word a b c d) ≡ a ∷ b ∷ c ∷ d ∷ []
bytes_word a b c d ha hb hc hd =
    let p : word a b c d % 256 ≡ a = omega arith in
    let q : word a b c d / 256 ≡ b + 256 * (c + 256 * d) = omega arith in
    let r : (b + 256 * (c + 256 * d)) / 256 ≡ c + 256 * d = omega arith in
    let s : (c + 256 * d) / 256 ≡ d = omega arith in
    let q' : (b + 256 * (c + 256 * d)) % 256 ≡ b = omega arith in
    let r' : (c + 256 * d) % 256 ≡ c = omega arith in
    let s' : d % 256 ≡ d = omega arith in
    rw (p, q, q', r, r', s, s')

pub words_spell : (ws t : List ℕ) → Below (2 ^ 32) ws → words (length ws) (spell ws ++ t) ≡ ws
words_spell [] t h = refl
words_spell (w ∷ ws) t h = ap₂ ◌∷◌ (word_bytes w h.0) (words_spell ws t h.1)

pub spell_words : (n : ℕ) (bs : List ℕ) → Below 256 bs → 4 * n ≤ length bs → spell (words n bs) ≡ take (4 * n) bs
spell_words zero bs k h = refl
spell_words (suc n) [] k h = absurd (omega arith)
spell_words (suc n) (a ∷ []) k h = absurd (omega arith)
spell_words (suc n) (a ∷ b ∷ []) k h = absurd (omega arith)
spell_words (suc n) (a ∷ b ∷ c ∷ []) k h = absurd (omega arith)
spell_words (suc n) (a ∷ b ∷ c ∷ d ∷ t) k h =
    let e : 4 * suc n ≡ suc (suc (suc (suc (4 * n)))) = omega arith in
    rw e
    (ap₂ ◌++◌ (bytes_word a b c d k.0 k.1.0 k.1.1.0 k.1.1.1.0)
    (spell_words n t k.1.1.1.1 (omega arith)))

pub word_at_drop : (k : ℕ) (bs : List ℕ) (i : ℕ) → word_at (drop k bs) i ≡ word_at bs (k + i)
word_at_drop k bs i = simp (get_or-drop, ← add_assoc)

pub words_snoc : (n : ℕ) (bs : List ℕ) → words (suc n) bs ≡ words n bs ++ (word_at bs (4 * n) ∷ [])
words_snoc zero bs = refl
words_snoc (suc n) bs =
    let e : 4 + 4 * n ≡ 4 * suc n = omega arith in
    ap (λ (l : List ℕ). word_at bs 0 ∷ l)
    (words_snoc n (drop 4 bs) ∙ ap (λ (w : ℕ). words n (drop 4 bs) ++ (w ∷ [])) (word_at_drop 4 bs (4 * n) ∙ ap (word_at bs) e))

pub get_or_below : (m : ℕ) (bs : List ℕ) (i : ℕ) → 0 < m → Below m bs → get_or bs i 0 < m
get_or_below m [] i p k = p
get_or_below m (x ∷ xs) zero p k = k.0
get_or_below m (x ∷ xs) (suc i) p k = get_or_below m xs i p k.1

pub drop_below : (m j : ℕ) (bs : List ℕ) → Below m bs → Below m (drop j bs)
drop_below m zero bs k = k
drop_below m (suc j) [] k = k
drop_below m (suc j) (x ∷ xs) k = drop_below m j xs k.1

pub append_below : (m : ℕ) (xs ys : List ℕ) → Below m xs → Below m ys → Below m (xs ++ ys)
append_below m [] ys h k = k
append_below m (x ∷ xs) ys h k = (h.0, append_below m xs ys h.1 k)

pub word_at_below : (bs : List ℕ) (i : ℕ) → Below 256 bs → word_at bs i < 2 ^ 32
word_at_below bs i k =
    let at : (j : ℕ) → get_or bs j 0 < 256 = λ j. get_or_below 256 bs j (omega arith) k in
    omega (arith, at i, at (i + 1), at (i + 2), at (i + 3))

pub words_below : (n : ℕ) (bs : List ℕ) → Below 256 bs → Below (2 ^ 32) (words n bs)
words_below zero bs k = tt
words_below (suc n) bs k = (word_at_below bs 0 k, words_below n (drop 4 bs) (drop_below 256 4 bs k))

-- a computed test for `Below`
abbrev pub all_below : ℕ → List ℕ → Bool
all_below m [] = true
all_below m (x ∷ xs) = ltb x m && all_below m xs

pub below_by : (m : ℕ) (xs : List ℕ) → all_below m xs ≡ true → Below m xs
below_by m [] e = tt
below_by m (x ∷ xs) e = go (ltb x m) refl e (below_by m xs)
  where
    go : (b : Bool) → ltb x m ≡ b → (b && all_below m xs) ≡ true → (all_below m xs ≡ true → Below m xs) → (x < m) × Below m xs
    go true q p rest = (ltb-true x m q, rest p)
    go false q p rest = let z : ◌≡◌ {A = ℕ} 0 1 = cc in absurd (omega arith)
