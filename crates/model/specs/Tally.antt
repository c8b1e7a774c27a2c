-- Polls and longest, counted over a trace (document 01: poll, longest).
use Rattle.std.specs.Prelude.{Bool, cond, List, [], ◌∷◌, ℕ, suc, ◌+◌, max}
use Rattle.model.specs.Wait.{Cause, ready}
use Rattle.model.specs.Event.{Event}
use Rattle.model.specs.Event.Event.{did, heard, got, polled}

pub record Tally : Type 0 where
  pub polls : ℕ  -- reads made to test readiness
  pub longest : ℕ  -- the most unready polls in one wait, or 0

abbrev pub none : Tally
none = record { polls = 0; longest = 0 }

-- of two traces one after the other: the sum and the larger
unfoldable pub plus : Tally → Tally → Tally
plus a b = record { polls = a.polls + b.polls; longest = max a.longest b.longest }

-- of one poll, whose wait made n unready ones before it: an unready one is the next of them
unfoldable pub poll_tally : Cause → ℕ → Bool → Tally
poll_tally c n ready = record { polls = 1; longest = cond ready 0 (suc n) }

-- of one event
unfoldable pub tally_event : Event → Tally
tally_event (did a) = none
tally_event (heard q answer) = none
tally_event (got i answer) = none
tally_event (polled c n answer) = poll_tally c n (ready c answer)

unfoldable pub tally_of : List Event → Tally
tally_of [] = none
tally_of (e ∷ t) = plus (tally_event e) (tally_of t)

-- the longest wait of a trace
abbrev pub longest_of : List Event → ℕ
longest_of t = (tally_of t).longest
