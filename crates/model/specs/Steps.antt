-- What the driver does, as a tree of steps.
use Rattle.std.specs.Prelude.{List, ℕ}
use Rattle.model.specs.Wait.{Cause}
use Rattle.model.specs.Event.{Act, Ask}
use Rattle.model.specs.Event.Act.{write, delay}
use Rattle.model.specs.Event.Ask.{register}

-- how steps end by themselves; 1, 10 and 11 are met on the way
pub data End : Type 0 where
  done unsupported : End

abbrev pub number_of : End → ℕ
number_of done = 0
number_of unsupported = 2

pub data Steps : Type 0 where
  end : End → Steps
  act : Act → Steps → Steps
  ask : Ask → (ℕ → Steps) → Steps  -- goes on with what the answer says
  get : ℕ → Steps → Steps  -- a byte from the receive FIFO into the lent memory, at an index
  look : (List ℕ → Steps) → Steps  -- goes on with the lent memory as it stands
  wait : Cause → (ℕ → Steps) → Steps → Steps  -- goes on with the count once ready; the last part is tried after a timeout

-- One after the other: the second where the first is done. What is tried after a timeout stays as it is.
unfoldable pub then : Steps → Steps → Steps
then (end done) t = t
then (end unsupported) t = end unsupported
then (act a s) t = act a (then s t)
then (ask q k) t = ask q (λ x. then (k x) t)
then (get i s) t = get i (then s t)
then (look k) t = look (λ m. then (k m) t)
then (wait c k u) t = wait c (λ n. then (k n) t) u

-- The second after the first, whatever the first ended with: where the second is done, the first's end stands.
-- After a timeout too, so that the number is 1 then unless the second meets 10 or 11.
unfoldable pub finally : Steps → Steps → Steps
finally (end e) t = then t (end e)
finally (act a s) t = act a (finally s t)
finally (ask q k) t = ask q (λ x. finally (k x) t)
finally (get i s) t = get i (finally s t)
finally (look k) t = look (λ m. finally (k m) t)
finally (wait c k u) t = wait c (λ n. finally (k n) t) (finally u t)

-- a change (document 01's term): one read and one write at a place
unfoldable pub change : ℕ → (ℕ → ℕ) → Steps
change place f = ask (register place) (λ word. act (write place (f word)) (end done))

-- a delay, in cycles
abbrev pub pause : ℕ → Steps
pause cycles = act (delay cycles) (end done)

-- a wait that is for nothing else, with nothing tried after a timeout
unfoldable pub wait_for : Cause → Steps
wait_for c = wait c (λ count. end done) (end done)
