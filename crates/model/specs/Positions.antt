-- The positions that polls carry are right: the polls of a wait stand together, and count its unready ones from 0.
use Rattle.std.specs.Prelude.{◌≡◌, Bool, cond, List, [], ◌∷◌, ℕ, zero, suc, ltb}
use Rattle.model.specs.Wait.{Cause, ready}
use Rattle.model.specs.Event.{Act, Event}
use Rattle.model.specs.Event.Event.{did, heard, got, polled}
use Rattle.model.specs.Steps.{Steps}
use Rattle.model.specs.Run.{run}

-- what may come after an event: anything but a wait's later poll, or just the poll of a wait at a position
pub data Due : Type 0 where
  free : Due
  again : Cause → ℕ → Due

-- After an unready poll that is not the limit's last, its wait polls again, one position on.
unfoldable pub due : ℕ → Event → Due
due limit (did a) = free
due limit (heard q answer) = free
due limit (got i answer) = free
due limit (polled c n answer) = cond (ready c answer) free (cond (ltb (suc n) limit) (again c (suc n)) free)

abbrev pub Fits : Due → Event → Type 0
Fits (again c n) e = (answer : ℕ) × (e ≡ polled c n answer)
Fits free (did a) = Unit {0}
Fits free (heard q answer) = Unit {0}
Fits free (got i answer) = Unit {0}
Fits free (polled c zero answer) = Unit {0}
Fits free (polled c (suc n) answer) = ⊥

-- of a trace that comes after an event
abbrev pub Positions : ℕ → Event → List Event → Type 0
Positions limit e [] = Unit {0}
Positions limit e (f ∷ t) = Fits (due limit e) f × Positions limit f t

abbrev pub EveryRunCounts : Type 0
EveryRunCounts =
    (s : Steps) (limit : ℕ) (late : Bool) (room : ℕ) (answers m : List ℕ) (a : Act)
    → Positions limit (did a) (run s limit late room answers m).trace
