-- The law on portions: runs that differ only in what would follow a count that no wait ends with are alike.
use mathlib.Core.Path.{◌≡◌, refl, ap, sym, ◌∙◌}
use mathlib.Core.Bool.{Bool, true, false, cond}
use mathlib.Core.List.{List, [], ◌∷◌, map}
use Prim.Native.Nat.{ℕ, zero, suc, ◌<◌, min}
use native.Mathlib.Omega.{arith}
use lib.ListN.{length, take, drop, length-map}
use lib.Dec.{ltb}
use borrow.Author.Tests.{ltb-true}
use Rattle.model.specs.Wait.{Cause, count_of, ready}
use Rattle.model.specs.Wait.Cause.{space, received}
use Rattle.model.specs.Event.Event.{polled}
use Rattle.model.specs.Steps.{Steps, then}
use Rattle.model.specs.Steps.End.{done}
use Rattle.model.specs.Steps.Steps.{end, wait}
use Rattle.model.specs.Field.{get_field}
use Rattle.model.specs.Run.{Outcome, after, answered, poll, run}
use Rattle.qspi.specs.Phases.{Move, moved_all, paced, gots}
use Rattle.qspi.specs.Phases.Move.{sent}
use Rattle.qspi.specs.Portions.{Portions, ReadyCounts, Alike, sending_on, getting_on}
use Rattle.qspi.proofs.Paced.{portion, paced_wait, portion_part}
use Rattle.qspi.proofs.Paced.{take_sent, drop_sent, length_gots, take_gots, drop_gots}

-- where the word is ready what follows is alike, else the polls that come next
either : (b : Bool) {x x' y y' : Outcome} → (b ≡ true → x ≡ x') → y ≡ y' → cond b x y ≡ cond b x' y'
either true h g = h refl
either false h g = g

module _ (c : Cause) (k k' : ℕ → ℕ → List ℕ → Outcome) (u : ℕ → List ℕ → Outcome)
    (same : (word r : ℕ) (l : List ℕ) → ready c word ≡ true
    → k (count_of c word) r l ≡ k' (count_of c word) r l) where
  polls_alike : (left n r : ℕ) (ws m : List ℕ) → poll c k u left n r ws m ≡ poll c k' u left n r ws m
  unfolding poll answered
  polls_alike zero n r ws m = refl
  polls_alike (suc left) n zero ws m = refl
  polls_alike (suc left) n (suc r) [] m = refl
  polls_alike (suc left) n (suc r) (w ∷ ws) m =
      ap (after (polled c n w)) (either (ready c w) (same w r ws) (polls_alike left (suc n) r ws m))

waits_alike : (c : Cause) (k k' : ℕ → Steps)
    → ((word : ℕ) → ready c word ≡ true → k (count_of c word) ≡ k' (count_of c word))
    → Alike (wait c k (end done)) (wait c k' (end done))
unfolding run
waits_alike c k k' h l late r ws m =
    polls_alike c _ _ _ (λ word r' ws' e. ap (λ s. run s l late r' ws' m) (h word e)) l 0 r ws m

-- n moves, and the rest by the same
abbrev part : Cause → List Move → ℕ → Steps
part c xs n = then (moved_all (take n xs)) (paced c 0 (drop n xs))

-- a wait that is for a count ends with some
module _ (c : Cause) (counts : (word : ℕ) → ready c word ≡ ltb 0 (count_of c word)) where
  some : (word : ℕ) → ready c word ≡ true → 0 < count_of c word
  some word e = ltb-true _ _ (sym (counts word) ∙ e)

  by_portions : (xs : List Move) → 0 < length xs → (k : ℕ → Steps) → ((n : ℕ) → part c xs (min n (length xs)) ≡ k n)
      → Alike (paced c 0 xs) (wait c k (end done))
  by_portions xs h k e l late r ws m =
      ap (λ s. run s l late r ws m) (paced_wait c xs h)
      ∙ waits_alike c (portion c xs) k
      (λ word f. portion_part c (count_of c word) xs (some word f) h ∙ e (count_of c word)) l late r ws m

sends_on : (left : List ℕ) (n : ℕ) → part space (map sent left) (min n (length (map sent left))) ≡ sending_on left n
sends_on left n = rw (length-map left sent, take_sent, drop_sent) refl

gets_on : (at left n : ℕ) → part received (gots at left) (min n (length (gots at left))) ≡ getting_on at left n
gets_on at left n =
    rw (length_gots at left, take_gots (min n left) at left (omega arith), drop_gots (min n left) at left) refl

pub portions : Portions
unfolding paced gots
portions =
    record {
      none_to_send = refl;
      none_to_get = λ at. refl;
      sends = λ b bs.
          by_portions space (λ w. refl) (map sent (b ∷ bs)) (omega arith) (sending_on (b ∷ bs)) (sends_on (b ∷ bs));
      gets = λ at n.
          by_portions received (λ w. refl) (gots at (suc n)) (rw (length_gots at (suc n)) (omega arith))
          (getting_on at (suc n)) (gets_on at (suc n));
    }

pub ready_counts : ReadyCounts
unfolding get_field
ready_counts =
    record {
      space = λ word e. (some space (λ w. refl) word e, omega arith);
      received = λ word e. (some received (λ w. refl) word e, omega arith);
    }
