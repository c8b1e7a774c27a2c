-- What any steps come to, given the limit (document 01: limit), the entries that still fit the log, the answers left and the memory.
-- Document 01's run is one whole call: `called` in State.
use Rattle.std.specs.Prelude.{Bool, true, cond, List, [], ◌∷◌, ℕ, zero, suc}
use Rattle.model.specs.Wait.{Cause, count_of, ready}
use Rattle.model.specs.Event.{Event, said, receive}
use Rattle.model.specs.Event.Event.{did, heard, got, polled}
use Rattle.model.specs.Steps.{Steps, number_of}
use Rattle.model.specs.Steps.Steps.{end, act, ask, get, look, wait}

pub record Outcome : Type 0 where
  pub number : ℕ
  pub trace : List Event
  pub room : ℕ  -- entries that still fit the log
  pub rest : List ℕ  -- answers left
  pub memory : List ℕ

abbrev pub stop : ℕ → ℕ → List ℕ → List ℕ → Outcome
stop n room rest m = record { number = n; trace = []; room = room; rest = rest; memory = m }

abbrev pub after : Event → Outcome → Outcome
after e o = record { number = o.number; trace = e ∷ o.trace; room = o.room; rest = o.rest; memory = o.memory }

-- an entry: 10 where it does not fit the log
unfoldable pub entered : Event → ℕ → List ℕ → List ℕ → (ℕ → Outcome) → Outcome
entered e zero answers m k = stop 10 zero answers m
entered e (suc room) answers m k = after e (k room)

-- an entry that takes an answer: 10 where it does not fit the log, else 11 where no answer is left
unfoldable pub answered : (ℕ → Event) → ℕ → List ℕ → List ℕ → (ℕ → ℕ → List ℕ → Outcome) → Outcome
answered e zero answers m k = stop 10 zero answers m
answered e (suc room) [] m k = stop 11 (suc room) [] m
answered e (suc room) (a ∷ answers) m k = after (e a) (k a room answers)

-- Polls until ready, at most `left` more after n unready ones; then `k` of the count, or `u` after the limit's last.
unfoldable pub poll : Cause → (ℕ → ℕ → List ℕ → Outcome) → (ℕ → List ℕ → Outcome) → ℕ → ℕ → ℕ → List ℕ → List ℕ → Outcome
poll c k u zero n room answers m = u room answers
poll c k u (suc left) n room answers m =
    answered (polled c n) room answers m
    (λ word room' rest.
    let go = k (count_of c word) room' rest in
    let again = poll c k u left (suc n) room' rest m in
    cond (ready c word) go again)

-- `late`: a wait has timed out before, so an end gives 1.
unfoldable pub run : Steps → ℕ → Bool → ℕ → List ℕ → List ℕ → Outcome
run (end e) limit late room answers m = stop (cond late 1 (number_of e)) room answers m
run (act a s) limit late room answers m = entered (did a) room answers m (λ room'. run s limit late room' answers m)
run (ask q k) limit late room answers m =
    answered (heard q) room answers m (λ x room' rest. run (k (said q x)) limit late room' rest m)
run (get i s) limit late room answers m =
    answered (got i) room answers m (λ x room' rest. run s limit late room' rest (receive m (got i x)))
run (look k) limit late room answers m = run (k m) limit late room answers m
run (wait c k u) limit late room answers m =
    poll c (λ n room' rest. run (k n) limit late room' rest m) (λ room' rest. run u limit true room' rest m)
    limit 0 room answers m
