-- A text at the front of a buffer of 65,664 bytes, with zeros behind it.
use Rattle.std.specs.Prelude.{◌≡◌, List, ◌++◌, ℕ, ◌≤◌, length, take, drop, replicate}
use Rattle.std.proofs.Common.{sym, ap₂}
use lib.Seq.{length-take-le}

-- the buffer that holds the text t
abbrev pub filled : List ℕ → List ℕ
filled t = t ++ drop (length t) (replicate 65664 0)

-- the buffer b holds its first n bytes so
pub record Behind (b : List ℕ) (n : ℕ) : Type 0 where
  pub within : n ≤ length b
  pub zeros : b ≡ filled (take n b)

-- the buffer and the length are those of the text
pub filled_back :
    {A : Type 0} (b : List ℕ) (n : ℕ)
    → Behind b n
    → (f : List ℕ → ℕ → A)
    → f (filled (take n b)) (length (take n b)) ≡ f b n
filled_back b n h f = ap₂ f (sym h.zeros) (length-take-le n b h.within)
