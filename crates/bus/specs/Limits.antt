-- Demand 3 for each call as its user sees it: all its parameters fixed but the limit and the answers; and its bound on polls.
use Rattle.std.specs.Prelude.{List, ◌++◌, ℕ, ◌+◌, ◌*◌, ◌≤◌, ◌<◌, length}
use Rattle.model.specs.Limit.{Ended, AgainCall}
use Rattle.model.specs.Refusable.{Refusable, limited, Steady}
use Rattle.bus.specs.Calls.{Call, steps_of, lengths_of, too_long, outcome}
use Rattle.bus.specs.Calls.Call.{write, read}

-- a call as model lifts laws to it: refused by 7 at limit 0, then by 6; its outcome is what is made of this
abbrev pub refusable : Call → Refusable
refusable call = limited (too_long (lengths_of call)) (steps_of call)

abbrev pub CallsSteady : Type 0
CallsSteady = (call : Call) → Steady (refusable call)

-- A call that ended in 0 or 2, at another limit from 1 up and with words added after the answers: it ends in 0 or 2 exactly if the limit is above
-- the first longest, and is then alike in number, counts, log and memory.
abbrev pub CallsAgain : Type 0
CallsAgain =
    (call : Call) (limit limit' : ℕ) (answers more log m : List ℕ) → 0 < limit' → Ended (outcome call limit answers log m).number
    → AgainCall limit' (outcome call limit answers log m) (outcome call limit' (answers ++ more) log m)

-- A write of n bytes alone polls at most limit × (n + 2) times, a read limit × (n + 1), however it ends: refused it polls not at all.
abbrev pub WriteCallPolls : Type 0
WriteCallPolls =
    (bytes : List ℕ) (limit : ℕ) (answers log m : List ℕ)
    → (outcome (write bytes) limit answers log m).tally.polls ≤ limit * (length bytes + 2)

abbrev pub ReadCallPolls : Type 0
ReadCallPolls =
    (n limit : ℕ) (answers log m : List ℕ) → (outcome (read n) limit answers log m).tally.polls ≤ limit * (n + 1)
