-- Steps on a part of the memory, and the same steps on the whole.
use Rattle.std.specs.Prelude.{◌≡◌, Bool, List, ◌++◌, map, ℕ, ◌+◌, ◌<◌, length}
use Rattle.model.specs.Wait.{Cause}
use Rattle.model.specs.Event.{Act, Ask, Event}
use Rattle.model.specs.Event.Event.{did, heard, got, polled}
use Rattle.model.specs.Steps.{End, Steps}
use Rattle.model.specs.Steps.Steps.{end, act, ask, get, look, wait}
use Rattle.model.specs.Run.{Outcome, run}
use Rattle.model.specs.State.{State, with_memory, advance}

-- What the second steps do in a memory of n bytes, the first do at index `at` of a larger one: bytes go to and are looked at in that part alone.
pub data Inside (at n : ℕ) : Steps → Steps → Type 0 where
  ends : (e : End) → Inside at n (end e) (end e)
  acts : (a : Act) {s t : Steps} → Inside at n s t → Inside at n (act a s) (act a t)
  asks : (q : Ask) {k l : ℕ → Steps} → ((x : ℕ) → Inside at n (k x) (l x)) → Inside at n (ask q k) (ask q l)
  gets : {i j : ℕ} {s t : Steps} → i ≡ at + j → j < n → Inside at n s t → Inside at n (get i s) (get j t)
  looks : {k l : List ℕ → Steps}
      → ((before m behind : List ℕ) → length before ≡ at → length m ≡ n → Inside at n (k (before ++ (m ++ behind))) (l m))
      → Inside at n (look k) (look l)
  waits : (c : Cause) {k l : ℕ → Steps} {u v : Steps} → ((x : ℕ) → Inside at n (k x) (l x)) → Inside at n u v
      → Inside at n (wait c k u) (wait c l v)

-- an event of the part, as it stands in the whole
abbrev pub shifted : ℕ → Event → Event
shifted at (did a) = did a
shifted at (heard q answer) = heard q answer
shifted at (got i answer) = got (at + i) answer
shifted at (polled c n answer) = polled c n answer

-- a run on the part, as it stands in the whole
abbrev pub within : List ℕ → List ℕ → Outcome → Outcome
within before behind o =
    record {
      number = o.number;
      trace = map (shifted (length before)) o.trace;
      room = o.room;
      rest = o.rest;
      memory = before ++ (o.memory ++ behind);
    }

abbrev pub RunsInside : Type 0
RunsInside =
    (s t : Steps) (before m behind : List ℕ) → Inside (length before) (length m) s t
    → (limit : ℕ) (late : Bool) (room : ℕ) (answers : List ℕ)
    → run s limit late room answers (before ++ (m ++ behind)) ≡ within before behind (run t limit late room answers m)

-- The same of a caller's state, whose memory is the part.
abbrev pub AdvancesInside : Type 0
AdvancesInside =
    (s t : Steps) (before behind : List ℕ) (st : State) → Inside (length before) (length st.memory) s t
    → (limit : ℕ) (answers : List ℕ)
    → advance s limit answers (with_memory (before ++ (st.memory ++ behind)) st)
    ≡ with_memory (before ++ ((advance t limit answers st).memory ++ behind)) (advance t limit answers st)
