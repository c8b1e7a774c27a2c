-- Bytes sent from the lent memory itself, and bytes sent from a copy of it (request 3).
use Rattle.std.specs.Prelude.{◌≡◌, Bool, List, ℕ, get_or}
use Rattle.model.specs.Wait.{Cause}
use Rattle.model.specs.Event.{Ask}
use Rattle.model.specs.Event.Act.{write, send, delay}
use Rattle.model.specs.Steps.{End, Steps}
use Rattle.model.specs.Steps.Steps.{end, act, ask, get, look, wait}
use Rattle.model.specs.Run.{run}

-- The steps whose sends name indices: each byte is looked at in the lent memory at the moment it is sent.
unfoldable pub own : Steps → Steps
own (end e) = end e
own (act (write place value) s) = act (write place value) (own s)
own (act (send i) s) = look (λ m. act (send (get_or m i 0)) (own s))
own (act (delay cycles) s) = act (delay cycles) (own s)
own (ask q k) = ask q (λ x. own (k x))
own (get i s) = get i (own s)
own (look k) = look (λ m. own (k m))
own (wait c k u) = wait c (λ n. own (k n)) (own u)

-- The second steps send the bytes of a copy m where the first send indices, and neither receives into the memory.
pub data Copied (m : List ℕ) : Steps → Steps → Type 0 where
  ends : (e : End) → Copied m (end e) (end e)
  writes : (place value : ℕ) {s t : Steps} → Copied m s t
      → Copied m (act (write place value) s) (act (write place value) t)
  sends : (i : ℕ) {s t : Steps} → Copied m s t → Copied m (act (send i) s) (act (send (get_or m i 0)) t)
  delays : (cycles : ℕ) {s t : Steps} → Copied m s t → Copied m (act (delay cycles) s) (act (delay cycles) t)
  asks : (q : Ask) {k l : ℕ → Steps} → ((x : ℕ) → Copied m (k x) (l x)) → Copied m (ask q k) (ask q l)
  looks : {k l : List ℕ → Steps} → Copied m (k m) (l m) → Copied m (look k) (look l)
  waits : (c : Cause) {k l : ℕ → Steps} {u v : Steps} → ((n : ℕ) → Copied m (k n) (l n)) → Copied m u v
      → Copied m (wait c k u) (wait c l v)

-- Sent from the memory itself or from a copy taken when the steps begin: the same outcome, wherever it ends.
abbrev pub OwnAsCopied : Type 0
OwnAsCopied =
    (m : List ℕ) (s t : Steps) → Copied m s t
    → (limit : ℕ) (late : Bool) (room : ℕ) (answers : List ℕ)
    → run (own s) limit late room answers m ≡ run t limit late room answers m
