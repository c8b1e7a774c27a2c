-- The last word that a run writes to a place, and a field of it.
use Rattle.std.specs.Prelude.{◌≡◌, false, cond, List, [], ◌∷◌, ℕ, eqb, Option, None, Some, option_map, length}
use Rattle.model.specs.Field.{get_field}
use Rattle.model.specs.Event.{Act, Event, stored}
use Rattle.model.specs.Event.Act.{write, send, delay}
use Rattle.model.specs.Event.Event.{did, heard, got, polled}
use Rattle.model.specs.Steps.{Steps}
use Rattle.model.specs.Steps.End.{done, unsupported}
use Rattle.model.specs.Steps.Steps.{end, act, ask, get, look, wait}
use Rattle.model.specs.Run.{run}
use Rattle.model.specs.State.{State, called}

-- the last word after an act; `w` before it
unfoldable pub rewritten : ℕ → Option ℕ → Act → Option ℕ
rewritten place w (write at word) = cond (eqb at place) (Some word) w
rewritten place w (send b) = w
rewritten place w (delay cycles) = w

-- the last word that a trace writes to the place; `w` where it writes none
unfoldable pub last_written : ℕ → Option ℕ → List Event → Option ℕ
last_written place w [] = w
last_written place w (did a ∷ t) = last_written place (rewritten place w a) t
last_written place w (heard q answer ∷ t) = last_written place w t
last_written place w (got i answer ∷ t) = last_written place w t
last_written place w (polled c n answer ∷ t) = last_written place w t

-- there is a word, and its field from bit `low` up has the value
abbrev pub Left : ℕ → ℕ → ℕ → Option ℕ → Type 0
Left low width value w = option_map (get_field low width) w ≡ Some value

module _ (place low width value : ℕ) where
  -- each path that is done leaves such a word at the place; `w`: the last one before it
  abbrev pub Leaves : Option ℕ → Steps → Type 0
  Leaves w (end done) = Left low width value w
  Leaves w (end unsupported) = Unit {0}
  Leaves w (act a s) = Leaves (rewritten place w a) s
  Leaves w (ask q k) = (x : ℕ) → Leaves w (k x)
  Leaves w (get i s) = Leaves w s
  Leaves w (look k) = (m : List ℕ) → Leaves w (k m)
  Leaves w (wait c k u) = (x : ℕ) → Leaves w (k x)  -- after a timeout nothing is done

-- Every run of such steps that is done leaves it.
abbrev pub DoneLeaves : Type 0
DoneLeaves =
    (place low width value : ℕ) (w : Option ℕ) (s : Steps) → Leaves place low width value w s
    → (limit room : ℕ) (answers m : List ℕ) → (run s limit false room answers m).number ≡ 0
    → Left low width value (last_written place w (run s limit false room answers m).trace)

-- The entries that a call made, from the lent log on, are a trace that leaves it.
abbrev pub LogLeaves : ℕ → ℕ → ℕ → ℕ → List ℕ → State → Type 0
LogLeaves place low width value log st =
    (t : List Event) × (st.entries ≡ length t) × (st.log ≡ stored log 0 t)
    × Left low width value (last_written place None t)

-- So are those of every call that is done.
abbrev pub DoneCallLeaves : Type 0
DoneCallLeaves =
    (place low width value : ℕ) (s : Steps) → Leaves place low width value None s
    → (refused limit : ℕ) (answers log m : List ℕ) → (called refused s limit answers log m).number ≡ 0
    → LogLeaves place low width value log (called refused s limit answers log m)
