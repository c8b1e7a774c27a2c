-- The quad frame.
use mathlib.Core.Path.{◌≡◌, refl, sym, ◌∙◌}
use mathlib.Core.List.{List, ◌++◌, append_assoc}
use Prim.Native.Nat.{ℕ, zero, suc, ◌+◌, ◌-◌, ◌≤◌, min}
use native.Mathlib.Omega.{arith}
use native.Mathlib.Decide.{dec_le}
use lib.ListN.{length, take, drop, replicate, length-take, length-append, length-replicate, replicate-append-replicate}
use lib.Seq.{take-length, take_all, take-append_seam}
use Rattle.quad.specs.declared.frame.QuadFrame.{QuadFrame}
use Rattle.quad.specs.Quad.{framed}
use Rattle.quad.specs.Frames.{Frames}

drop_replicate : (k n : ℕ) → drop k (replicate {A = ℕ} n 0) ≡ replicate (n - k) 0
drop_replicate zero n = let e : n - 0 ≡ n = omega arith in rw e refl
drop_replicate (suc k) zero = let e : zero - suc k ≡ 0 = omega arith in rw e refl
drop_replicate (suc k) (suc n) = let e : suc n - suc k ≡ n - k = omega arith in rw e (drop_replicate k n)

take_min : (k : ℕ) (l : List ℕ) → take (min (length l) k) l ≡ take k l
take_min k l = by (dec_le (length l) k)
  where
    by : Dec (length l ≤ k) → take (min (length l) k) l ≡ take k l
    by (yes h) = let e : min (length l) k ≡ length l = omega arith in rw e (take-length l ∙ sym (take_all k l h))
    by (no h) = let e : min (length l) k ≡ k = omega arith in rw e refl

zeros : (command : List ℕ) (k d : ℕ) → k + d ≤ 16
    → take k command ++ replicate (16 - length (take k command)) 0
    ≡ (take k command ++ replicate d 0) ++ replicate (16 - length (take k command ++ replicate d 0)) 0
zeros command k d h =
    let l : length (take k command) ≤ k = simp length-take (omega arith) in
    let e : d + (16 - length (take k command ++ replicate d 0)) ≡ 16 - length (take k command)
    = simp (length-append, length-replicate) (omega arith) in
    rw (append_assoc, replicate-append-replicate, e) refl

-- `d` zeros behind `n` bytes of the command, which were copied into sixteen zeros
pub frames_copied : (command : List ℕ) (dummies : ℕ) {bytes : List ℕ} {n d : ℕ} → d ≡ min dummies 8
    → n ≡ min (length command) (16 - d)
    → bytes ≡ take n command ++ drop n (replicate 16 0)
    → {fits : n + d ≤ 16} → Frames command dummies (record { bytes = bytes; length = n + d; fits = fits })
unfolding framed
frames_copied command dummies {bytes} {n} {d} e f g =
    let counts : length (take n command) ≡ n = simp length-take (omega arith) in
    let left : 16 - n ≡ 16 - length (take n command) = omega (arith, counts) in
    let t : take n command ≡ take (16 - min dummies 8) command = rw (f, e) (take_min (16 - min dummies 8) command) in
    record {
      filled =
          g ∙ rw (drop_replicate n 16, left, t)
          (zeros command (16 - min dummies 8) (min dummies 8) (omega arith));
      counted = simp (length-append, length-take, length-replicate) (omega arith);
    }

-- the same where the count of the bytes that were copied is their length
pub frames : (command : List ℕ) (dummies : ℕ) {bytes : List ℕ} {n d : ℕ} → d ≡ min dummies 8
    → n ≡ min (length command) (16 - d)
    → bytes ≡ take (length (take n command)) (take n command) ++ drop (length (take n command)) (replicate 16 0)
    → {fits : n + d ≤ 16} → Frames command dummies (record { bytes = bytes; length = n + d; fits = fits })
frames command dummies {bytes} {n} {d} e f g =
    let counts : length (take n command) ≡ n = simp length-take (omega arith) in
    frames_copied command dummies e f (g ∙ rw (take-length (take n command), counts) refl)

-- The frame's bytes, and that they are at most sixteen.
module _ {command : List ℕ} {dummies : ℕ} {frame : QuadFrame} (f : Frames command dummies frame) where
  pub frame_sent : take frame.length frame.bytes ≡ framed command dummies
  frame_sent = rw (f.filled, f.counted) (take-append_seam (framed command dummies) _)

  pub frame_fits : (frame.length ≤ length frame.bytes) × (frame.length ≤ 16)
  unfolding framed
  frame_fits = (
    rw (f.filled, f.counted) (simp length-append (omega arith)),
    rw f.counted (simp (length-append, length-take, length-replicate) (omega arith)),
  )
