-- Moves by portions: a wait's count lets so many moves, or what is left, go without another wait.
use mathlib.Core.Path.{◌≡◌, refl, ap, sym, ◌∙◌}
use mathlib.Core.List.{List, [], ◌∷◌, map}
use Prim.Native.Nat.{ℕ, zero, suc, pred, ◌+◌, ◌-◌, ◌≤◌, ◌<◌, min}
use native.Mathlib.Omega.{arith}
use native.Mathlib.Decide.{dec_le}
use native.Mathlib.Nat.{add-zero, add_assoc}
use lib.ListN.{length, take, drop}
use Rattle.model.specs.Frame.{Inside}
use Rattle.model.specs.Frame.Inside.{ends, gets, waits}
use Rattle.model.specs.Wait.{Cause}
use Rattle.model.specs.Steps.{Steps, then}
use Rattle.model.specs.Steps.End.{done}
use Rattle.model.specs.Steps.Steps.{end, wait}
use Rattle.qspi.specs.Phases.{Move, moved, moved_all, paced, gots}
use Rattle.qspi.specs.Phases.Move.{sent, got}

then_moved : (x : Move) (s t : Steps) → then (moved x s) t ≡ moved x (then s t)
unfolding then moved
then_moved (sent b) s t = refl
then_moved (got i) s t = refl

-- The moves that need no wait, and the rest.
pub paced_part : (c : Cause) (n : ℕ) (xs : List Move) → paced c n xs ≡ then (moved_all (take n xs)) (paced c 0 (drop n xs))
unfolding paced moved_all then
paced_part c zero [] = refl
paced_part c zero (x ∷ xs) = refl
paced_part c (suc n) [] = refl
paced_part c (suc n) (x ∷ xs) = ap (moved x) (paced_part c n xs) ∙ sym (then_moved x _ _)

-- A count above what is left lets all of it go.
paced_all : (c : Cause) (n : ℕ) (xs : List Move) → length xs ≤ n → paced c n xs ≡ paced c (length xs) xs
unfolding paced
paced_all c n [] h = refl
paced_all c zero (x ∷ xs) h = absurd (omega arith)
paced_all c (suc n) (x ∷ xs) h = ap (moved x) (paced_all c n xs (omega arith))

paced_min : (c : Cause) (n : ℕ) (xs : List Move) → paced c n xs ≡ paced c (min n (length xs)) xs
paced_min c n xs = by (dec_le n (length xs))
  where
    by : Dec (n ≤ length xs) → paced c n xs ≡ paced c (min n (length xs)) xs
    by (yes h) = let e : min n (length xs) ≡ n = omega arith in rw e refl
    by (no h) = let e : min n (length xs) ≡ length xs = omega arith in rw e (paced_all c n xs (omega arith))

-- What follows the wait for a portion of some moves.
pub portion : Cause → List Move → ℕ → Steps
portion c [] n = end done
portion c (x ∷ xs) n = moved x (paced c (pred n) xs)

pub paced_wait : (c : Cause) (xs : List Move) → 0 < length xs → paced c 0 xs ≡ wait c (portion c xs) (end done)
unfolding paced portion
paced_wait c [] h = absurd (omega arith)
paced_wait c (x ∷ xs) h = refl

pub portion_part : (c : Cause) (n : ℕ) (xs : List Move) → 0 < n → 0 < length xs
    → portion c xs n ≡ then (moved_all (take (min n (length xs)) xs)) (paced c 0 (drop (min n (length xs)) xs))
unfolding paced portion
portion_part c n [] h i = absurd (omega arith)
portion_part c zero (x ∷ xs) h i = absurd (omega arith)
portion_part c (suc n) (x ∷ xs) h i = paced_min c (suc n) (x ∷ xs) ∙ paced_part c (min (suc n) (length (x ∷ xs))) (x ∷ xs)

-- Parts of the bytes to send.
pub take_sent : (n : ℕ) (bs : List ℕ) → take n (map sent bs) ≡ map sent (take n bs)
take_sent zero bs = refl
take_sent (suc n) [] = refl
take_sent (suc n) (b ∷ bs) = ap (sent b ∷◌) (take_sent n bs)

pub drop_sent : (n : ℕ) (bs : List ℕ) → drop n (map sent bs) ≡ map sent (drop n bs)
drop_sent zero bs = refl
drop_sent (suc n) [] = refl
drop_sent (suc n) (b ∷ bs) = drop_sent n bs

-- Parts of the places to fill.
pub length_gots : (at n : ℕ) → length (gots at n) ≡ n
unfolding gots
length_gots at zero = refl
length_gots at (suc n) = ap suc (length_gots (at + 1) n)

pub take_gots : (k at n : ℕ) → k ≤ n → take k (gots at n) ≡ gots at k
unfolding gots
take_gots zero at n h = refl
take_gots (suc k) at zero h = absurd (omega arith)
take_gots (suc k) at (suc n) h = ap (got at ∷◌) (take_gots k (at + 1) n (omega arith))

pub drop_gots : (k at n : ℕ) → drop k (gots at n) ≡ gots (at + k) (n - k)
unfolding gots
drop_gots zero at n = let e : n - 0 ≡ n = omega arith in rw (add-zero, e) refl
drop_gots (suc k) at zero = let e : zero - suc k ≡ 0 = omega arith in rw e refl
drop_gots (suc k) at (suc n) =
    let e : at + 1 + k ≡ at + suc k = omega arith in
    let f : suc n - suc k ≡ n - k = omega arith in
    rw f (drop_gots k (at + 1) n ∙ rw e refl)

-- Bytes received into a part go to its place in the whole.
pub gots_inside : (c : Cause) (count at n i k : ℕ) → i + k ≤ n → Inside at n (paced c count (gots (at + i) k)) (paced c count (gots i k))
unfolding paced gots moved
gots_inside c count at n i zero h = ends done
gots_inside c zero at n i (suc k) h =
    rw add_assoc (waits c (λ count'. gets {j = i} refl (omega arith) (gots_inside c (pred count') at n (i + 1) k (omega arith))) (ends done))
gots_inside c (suc count) at n i (suc k) h = rw add_assoc (gets {j = i} refl (omega arith) (gots_inside c count at n (i + 1) k (omega arith)))

pub all_inside : (at n i k : ℕ) → i + k ≤ n → Inside at n (moved_all (gots (at + i) k)) (moved_all (gots i k))
unfolding moved_all gots moved
all_inside at n i zero h = ends done
all_inside at n i (suc k) h = rw add_assoc (gets {j = i} refl (omega arith) (all_inside at n (i + 1) k (omega arith)))
