-- Words of 32 bits and their four bytes, the least significant first.
use Rattle.std.specs.Prelude.{ℕ, zero, suc, ◌+◌, ◌*◌, ◌/◌, ◌%◌, ◌<◌, List, [], ◌∷◌, ◌++◌, get_or, drop}

-- the word that four bytes spell
abbrev pub word : ℕ → ℕ → ℕ → ℕ → ℕ
word a b c d = a + 256 * (b + 256 * (c + 256 * d))

-- the word at byte i of bs
abbrev pub word_at : List ℕ → ℕ → ℕ
word_at bs i = word (get_or bs i 0) (get_or bs (i + 1) 0) (get_or bs (i + 2) 0) (get_or bs (i + 3) 0)

-- the first n words of bs
abbrev pub words : ℕ → List ℕ → List ℕ
words zero bs = []
words (suc n) bs = word_at bs 0 ∷ words n (drop 4 bs)

-- the four bytes of a word
abbrev pub bytes_of : ℕ → List ℕ
bytes_of w = w % 256 ∷ w / 256 % 256 ∷ w / 256 / 256 % 256 ∷ w / 256 / 256 / 256 % 256 ∷ []

-- the bytes of words, one after the other
abbrev pub spell : List ℕ → List ℕ
spell [] = []
spell (w ∷ ws) = bytes_of w ++ spell ws

-- every number of the list is below m
abbrev pub Below : ℕ → List ℕ → Type 0
Below m [] = Unit {0}
Below m (x ∷ xs) = (x < m) × Below m xs
