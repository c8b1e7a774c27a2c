-- How much the entries of a run can weigh: bounds on polls, by cause and together, and on the other entries.
use Rattle.std.specs.Prelude.{Bool, List, [], ◌∷◌, ℕ, ◌+◌, ◌*◌, ◌≤◌, length}
use Rattle.model.specs.Wait.{Cause}
use Rattle.model.specs.Wait.Cause.{space, received, empty, start}
use Rattle.model.specs.Event.{Event}
use Rattle.model.specs.Event.Event.{did, heard, got, polled}
use Rattle.model.specs.Tally.{tally_of}
use Rattle.model.specs.Steps.{Steps}
use Rattle.model.specs.Steps.Steps.{end, act, ask, get, look, wait}
use Rattle.model.specs.Run.{run}
use Rattle.model.specs.State.{State, begun, advance, called}

-- what a poll weighs, by its cause, and what any other entry weighs
pub record Weight : Type 0 where
  pub poll : Cause → ℕ
  pub other : ℕ

unfoldable pub weigh : Weight → Event → ℕ
weigh w (did a) = w.other
weigh w (heard q answer) = w.other
weigh w (got i answer) = w.other
weigh w (polled c n answer) = w.poll c

unfoldable pub weight : Weight → List Event → ℕ
weight w [] = 0
weight w (e ∷ t) = weigh w e + weight w t

-- Every path weighs at most n, a wait as much as `limit` polls.
abbrev pub AtMost : Weight → ℕ → ℕ → Steps → Type 0
AtMost w limit n (end e) = Unit {0}
AtMost w limit n (act a s) = (rest : ℕ) × (w.other + rest ≤ n) × AtMost w limit rest s
AtMost w limit n (ask q k) = (rest : ℕ) × (w.other + rest ≤ n) × ((x : ℕ) → AtMost w limit rest (k x))
AtMost w limit n (get i s) = (rest : ℕ) × (w.other + rest ≤ n) × AtMost w limit rest s
AtMost w limit n (look k) = (m : List ℕ) → AtMost w limit n (k m)
AtMost w limit n (wait c k u) =
    (rest : ℕ) × (limit * w.poll c + rest ≤ n) × ((x : ℕ) → AtMost w limit rest (k x)) × AtMost w limit rest u

-- However the run ends.
abbrev pub Bound : Type 0
Bound =
    (w : Weight) (limit n : ℕ) (s : Steps) → AtMost w limit n s → (late : Bool) (room : ℕ) (answers m : List ℕ)
    → weight w (run s limit late room answers m).trace ≤ n

-- a number for each cause
abbrev pub by_cause : ℕ → ℕ → ℕ → ℕ → Cause → ℕ
by_cause a b c d space = a
by_cause a b c d received = b
by_cause a b c d empty = c
by_cause a b c d start = d

-- n for one cause, 0 for the others
abbrev pub only : Cause → ℕ → Cause → ℕ
only space n = by_cause n 0 0 0
only received n = by_cause 0 n 0 0
only empty n = by_cause 0 0 n 0
only start n = by_cause 0 0 0 n

-- as weights: all polls, those for one cause, and the entries that are no polls
abbrev pub all_polls : Weight
all_polls = record { poll = λ c. 1; other = 0 }

abbrev pub polls_for : Cause → Weight
polls_for c = record { poll = only c 1; other = 0 }

abbrev pub others : Weight
others = record { poll = λ c. 0; other = 1 }

-- what so many waits for each cause and so many other entries weigh
abbrev pub worst : Weight → ℕ → (Cause → ℕ) → ℕ → ℕ
worst w limit waits rest = cost space + cost received + (cost empty + cost start) + w.other * rest
  where
    cost : Cause → ℕ
    cost c = limit * w.poll c * waits c

-- At most so many waits for each cause and so many other entries on every path, whatever they weigh.
pub record Bounded (waits : Cause → ℕ) (rest : ℕ) (s : Steps) : Type 0 where
  pub weighs : (w : Weight) (limit : ℕ) → AtMost w limit (worst w limit waits rest) s

abbrev pub sum : (Cause → ℕ) → ℕ
sum waits = waits space + waits received + (waits empty + waits start)

-- A trace with at most the limit's polls for each wait of a cause, and so of all together, and at most so many other
-- entries.
pub record WithinBound (waits : Cause → ℕ) (rest limit : ℕ) (t : List Event) : Type 0 where
  pub by_cause : (c : Cause) → weight (polls_for c) t ≤ limit * waits c
  pub polls : (tally_of t).polls ≤ limit * sum waits
  pub others : weight others t ≤ rest
  pub entries : length t ≤ limit * sum waits + rest

abbrev pub EveryRunWithin : Type 0
EveryRunWithin =
    (waits : Cause → ℕ) (rest : ℕ) (s : Steps) → Bounded waits rest s
    → (limit : ℕ) (late : Bool) (room : ℕ) (answers m : List ℕ)
    → WithinBound waits rest limit (run s limit late room answers m).trace

-- The same of a state: what the steps add to its polls and to its entries.
pub record Added (waits : Cause → ℕ) (rest limit : ℕ) (st st' : State) : Type 0 where
  pub polls : st'.tally.polls ≤ st.tally.polls + limit * sum waits
  pub entries : st'.entries ≤ st.entries + (limit * sum waits + rest)

abbrev pub EveryAdvanceAdds : Type 0
EveryAdvanceAdds =
    (waits : Cause → ℕ) (rest : ℕ) (s : Steps) → Bounded waits rest s → (limit : ℕ) (answers : List ℕ) (st : State)
    → Added waits rest limit st (advance s limit answers st)

-- The same of a call, refused or not.
abbrev pub EveryCallAdds : Type 0
EveryCallAdds =
    (waits : Cause → ℕ) (rest : ℕ) (s : Steps) → Bounded waits rest s → (refused limit : ℕ) (answers log m : List ℕ)
    → Added waits rest limit (begun log m) (called refused s limit answers log m)
