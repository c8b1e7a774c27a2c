-- Writing one text after another, how many digits a number takes, and the lines of a log.
use Prim.Native.Nat.{ℕ, zero, suc, ◌+◌, ◌-◌, ◌*◌, ◌/◌, ◌^◌, ◌≤◌, ◌<◌, min}
use mathlib.Core.Path.{◌≡◌, refl, sym, ap, ap₂, ◌∙◌}
use mathlib.Core.Bool.{Bool, true, false, cond}
use mathlib.Core.List.{List, [], ◌∷◌, ◌++◌, append_assoc, append-nil}
use native.Mathlib.Omega.{arith}
use native.Mathlib.Decide.{dec_lt, dec_le}
use native.Mathlib.Nat.{add_assoc, add-sub_cancel_left, pow-le-pow_right}
use lib.ListN.{length, get_or, take, drop, length-append, length-drop, length-take}
use lib.Seq.{take_at, drop_at, drop-drop, length-take-le, get_or-drop}
use Rattle.std.proofs.lemmas.List.{get_or-take}
use Rattle.std.specs.Simd.{first_chunks}
use lib.Dec.{leb}
use borrow.Author.Tests.{leb-true, leb-false}
use Rattle.io.specs.Digits.{last_digits, IsDigitCount}
use Rattle.lines.specs.declared.Writer.{Writer}
use Rattle.lines.specs.Writer.{Puts}
use Rattle.lines.specs.Text.{letter_of, entry_line, entry_lines, places, number, written, Wrote}

-- what is written keeps what stands before and after it
module _ (d : List ℕ) (at : ℕ) (x : List ℕ) (room : at + length x ≤ length d) where
  front_long : length (take at d ++ x) ≡ at + length x
  front_long = rw (length-append, length-take-le at d (omega arith))

  split : written d at x ≡ (take at d ++ x) ++ drop (at + length x) d
  split = sym (append_assoc (take at d) x (drop (at + length x) d))

  written_front : take (at + length x) (written d at x) ≡ take at d ++ x
  written_front = rw split (take_at (take at d ++ x) (drop (at + length x) d) (at + length x) front_long)

  written_rest : (n : ℕ) → drop (at + length x + n) (written d at x) ≡ drop (at + length x + n) d
  written_rest n =
      sym (drop-drop n (at + length x) (written d at x))
      ∙ ap (drop n) (ap (drop (at + length x)) split ∙ drop_at (take at d ++ x) (drop (at + length x) d) (at + length x) front_long)
      ∙ drop-drop n (at + length x) d

  written_long : length (written d at x) ≡ length d
  written_long = ap length split ∙ length-append (take at d ++ x) (drop (at + length x) d) ∙ omega (arith, front_long, length-drop (at + length x) d)

  written_then : (y : List ℕ) → written (written d at x) (at + length x) y ≡ written d at (x ++ y)
  written_then y =
      ap₂ ◌++◌ written_front (ap (λ (l : List ℕ). y ++ l) (written_rest (length y)))
      ∙ simp (append_assoc, length-append, add_assoc)

module _ {d d' : List ℕ} {at at' : ℕ} {x : List ℕ} (w : Wrote d at d' at' x) where
  pub wrote_long : length d' ≡ length d
  wrote_long = ap length w.text ∙ written_long d at x w.room

  -- one text after another is both together
  pub wrote_then : {d'' : List ℕ} {at'' : ℕ} {y : List ℕ} → Wrote d' at' d'' at'' y → Wrote d at d'' at'' (x ++ y)
  wrote_then {y = y} v =
      record {
        text = v.text ∙ ap₂ (λ (l : List ℕ) (k : ℕ). written l k y) w.text w.place ∙ written_then d at x w.room y;
        place = omega (arith, w.place, v.place, length-append x y);
        room = omega (arith, w.place, v.room, wrote_long, length-append x y);
      }

pub wrote_start : (d : List ℕ) → Wrote d 0 d 0 []
wrote_start d = record { text = refl; place = refl; room = omega arith }

-- a part of a list that becomes another of its length is a write
pub wrote_part :
    (d s ys : List ℕ) (at : ℕ)
    → at + length s ≤ length d
    → ys ≡ s
    → Wrote d at (take at d ++ (ys ++ drop (at + length s - at) (drop at d))) (at + length s) s
wrote_part d s ys at h e =
    record { text = rw (e, add-sub_cancel_left, drop-drop (length s) at d) refl; place = refl; room = h }

-- the same of a writer: one text after another, and a text that is equal
pub puts_then : {w w' w'' : Writer} {x y : List ℕ} → Puts w w' x → Puts w' w'' y → Puts w w'' (x ++ y)
puts_then p q = record { same = q.same ∙ p.same; wrote = wrote_then p.wrote q.wrote }

pub puts_as : {w w' : Writer} {x y : List ℕ} → x ≡ y → Puts w w' x → Puts w w' y
puts_as e p = rw (← e) p

-- a buffer that ends as its writer leaves it
pub puts_end : {w w' : Writer} {x y : List ℕ} → Puts w w' x → y ≡ w'.buffer.now → Wrote w.buffer.now w.len y w'.len x
puts_end p e = rw e p.wrote

-- the fewest digits that hold a number are `places`
module _ (n r : ℕ) (f : IsDigitCount 10 1 n r) where
  power_below : (k : ℕ) → 10 ^ k ≤ n → k < r
  power_below k h = go (dec_lt k r)
    where
      go : Dec (k < r) → k < r
      go (yes p) = p
      go (no p) = absurd (omega (arith, f.1, pow-le-pow_right {n = 10} (omega arith) {i = r} {j = k} (omega arith)))

  no_power : (k : ℕ) → n < 10 ^ suc k → r ≤ suc (suc k) → r ≤ suc k
  no_power k h m = go (dec_le r (suc k))
    where
      go : Dec (r ≤ suc k) → r ≤ suc k
      go (yes p) = p
      go (no p) =
          let e : r - 1 ≡ suc k = omega arith in
          absurd (omega (arith, rw e at (f.2 (omega arith))))

  pub fewest_places : (k : ℕ) → r ≤ suc k → places k n ≡ r
  fewest_places zero h = omega (arith, f.0)
  fewest_places (suc k) h = go (leb (10 ^ suc k) n) refl (fewest_places k)
    where
      go : (b : Bool) → leb (10 ^ suc k) n ≡ b → (r ≤ suc k → places k n ≡ r) → cond b (suc (suc k)) (places k n) ≡ r
      go true e rest = omega (arith, power_below (suc k) (leb-true _ _ e))
      go false e rest = rest (no_power k (leb-false _ _ e) h)

  -- a word of 64 bits has at most twenty
  pub fewest_twenty : n < 2 ^ 64 → r ≤ 20
  fewest_twenty h = go (dec_le r 20)
    where
      go : Dec (r ≤ 20) → r ≤ 20
      go (yes p) = p
      go (no p) = absurd (omega (arith, f.2 (omega arith), pow-le-pow_right {n = 10} (omega arith) {i = 20} {j = r - 1} (omega arith)))

-- the lines of one entry more
pub line_long : (w v : ℕ) → length (entry_line w v) ≡ 16
unfolding entry_line
line_long w v = refl

pub lines_more :
    (i : ℕ) (log : List ℕ)
    → 2 * i + 1 < length log
    → entry_lines (take (2 * (i + 1)) log) ≡ entry_lines (take (2 * i) log) ++ entry_line (get_or log (2 * i) 0) (get_or log (2 * i + 1) 0)
lines_more zero (w ∷ v ∷ t) h = append-nil (entry_line w v)
lines_more (suc i) (w ∷ v ∷ t) h =
    let a : 2 * (suc i + 1) ≡ suc (suc (2 * (i + 1))) = omega arith in
    let b : 2 * suc i + 1 ≡ suc (suc (2 * i + 1)) = omega arith in
    let c : 2 * suc i ≡ suc (suc (2 * i)) = omega arith in
    rw (a, b, c) (ap (λ (l : List ℕ). entry_line w v ++ l) (lines_more i t (omega arith)) ∙ sym (append_assoc (entry_line w v) _ _))
lines_more zero [] h = absurd (omega arith)
lines_more zero (w ∷ []) h = absurd (omega arith)
lines_more (suc i) [] h = absurd (omega arith)
lines_more (suc i) (w ∷ []) h = absurd (omega arith)

-- entry i of a log, read from its pieces of two
pair_at :
    (n i : ℕ) (log : List ℕ) (k : ℕ)
    → k < 2
    → i < n
    → get_or (get_or (first_chunks 2 n log) i []) k 0 ≡ get_or log (2 * i + k) 0
pair_at zero i log k h g = absurd (omega arith)
pair_at (suc n) zero log k h g =
    let e : k ≡ 0 + k = omega arith in
    get_or-take 2 log k 0 h ∙ ap (λ (j : ℕ). get_or log j 0) e
pair_at (suc n) (suc i) log k h g =
    let e : 2 + (2 * i + k) ≡ 2 * suc i + k = omega arith in
    pair_at n i (drop 2 log) k h (omega arith) ∙ get_or-drop 2 log (2 * i + k) 0 ∙ ap (λ (j : ℕ). get_or log j 0) e

pub entry_at :
    (n i : ℕ) (log : List ℕ) {ps : List (List ℕ)}
    → ps ≡ first_chunks 2 (length log / 2) log
    → length ps ≡ length log / 2
    → i < length (take n ps)
    → entry_line (get_or (get_or (take n ps) i []) 0 0) (get_or (get_or (take n ps) i []) 1 0)
    ≡ entry_line (get_or log (2 * i) 0) (get_or log (2 * i + 1) 0)
entry_at n i log {ps} e l h =
    let m : length (take n ps) ≡ min n (length ps) = length-take n ps in
    let is : get_or (take n ps) i [] ≡ get_or (first_chunks 2 (length log / 2) log) i [] =
    get_or-take n ps i [] (omega arith) ∙ ap (λ (qs : List (List ℕ)). get_or qs i []) e in
    let at : (k : ℕ) → k < 2 → get_or (get_or (take n ps) i []) k 0 ≡ get_or log (2 * i + k) 0 =
    λ k q. ap (λ (p : List ℕ). get_or p k 0) is ∙ pair_at (length log / 2) i log k q (omega arith) in
    let z : 2 * i + 0 ≡ 2 * i = omega arith in
    ap₂ entry_line (at 0 (omega arith) ∙ ap (λ (j : ℕ). get_or log j 0) z) (at 1 (omega arith))

-- an op that is none of the five
pub other_letter : (op : ℕ) → (op ≡ 1 → ⊥) → (op ≡ 2 → ⊥) → (op ≡ 3 → ⊥) → (op ≡ 4 → ⊥) → (op ≡ 5 → ⊥) → 63 ≡ letter_of op
other_letter zero a b c d e = refl
other_letter (suc zero) a b c d e = absurd (a refl)
other_letter (suc (suc zero)) a b c d e = absurd (b refl)
other_letter (suc (suc (suc zero))) a b c d e = absurd (c refl)
other_letter (suc (suc (suc (suc zero)))) a b c d e = absurd (d refl)
other_letter (suc (suc (suc (suc (suc zero))))) a b c d e = absurd (e refl)
other_letter (suc (suc (suc (suc (suc (suc n)))))) a b c d e = refl

-- a blank and the digits that `io::decimal` gives
pub numbered : (n k : ℕ) (t : List ℕ) → IsDigitCount 10 1 n k → k ≤ 20 → take k t ≡ last_digits 10 k n → (32 ∷ []) ++ take k t ≡ number n
unfolding number
numbered n k t f h e = ap (λ (l : List ℕ). 32 ∷ l) (e ∙ ap (λ (j : ℕ). last_digits 10 j n) (sym (fewest_places n k f 19 h)))
