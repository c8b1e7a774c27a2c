-- Steps one after the other, and steps that follow whatever the first ended with.
use Rattle.std.specs.Prelude.{◌≡◌, false, List, ◌⊎◌, ℕ, ◌<◌}
use Rattle.model.specs.Steps.{Steps, then, finally}
use Rattle.model.specs.Steps.Steps.{end, act, ask, get, look, wait}
use Rattle.model.specs.Run.{run}
use Rattle.model.specs.State.{State, with_number, standing, advance}
use Rattle.model.specs.Limit.{Ended}
use Rattle.model.specs.Supported.{Supported}

-- Steps one after the other advance one after the other, from every state.
abbrev pub ThenAdvances : Type 0
ThenAdvances =
    (s t : Steps) (limit : ℕ) (answers : List ℕ) (st : State)
    → advance (then s t) limit answers st ≡ advance t limit answers (advance s limit answers st)

-- the steps begin with a read
abbrev pub BeginsWithRead : Steps → Type 0
BeginsWithRead (end e) = ⊥
BeginsWithRead (act a s) = ⊥
BeginsWithRead (ask q k) = Unit {0}
BeginsWithRead (get i s) = Unit {0}
BeginsWithRead (look k) = ⊥
BeginsWithRead (wait c k u) = Unit {0}

-- What follows never turns a timeout into done or unsupported.
abbrev pub TimeoutStands : Type 0
TimeoutStands =
    (s t : Steps) (limit room : ℕ) (answers m : List ℕ) → (run s limit false room answers m).number ≡ 1
    → Ended (run (finally s t) limit false room answers m).number → ⊥

-- Where the first met 10 or 11, nothing follows.
abbrev pub StopsAtOnce : Type 0
StopsAtOnce =
    (s t : Steps) (limit : ℕ) (answers : List ℕ) (st : State) → st.number ≡ 0
    → ((advance s limit answers st).number ≡ 10) ⊎ ((advance s limit answers st).number ≡ 11)
    → advance (finally s t) limit answers st ≡ advance s limit answers st

-- Where the second begins with a read and never ends unsupported, this is to try it from where the first stopped, with the number set to 0;
-- its failure wins.
abbrev pub TriesOn : Type 0
TriesOn =
    (s t : Steps) (limit : ℕ) → Supported t → BeginsWithRead t → 0 < limit → (answers : List ℕ) (st : State) → st.number ≡ 0
    → advance (finally s t) limit answers st
    ≡ standing (advance s limit answers st) (advance t limit answers (with_number 0 (advance s limit answers st)))
