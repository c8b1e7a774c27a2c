-- Steps that never end unsupported, and the number that they never give.
use Rattle.std.specs.Prelude.{◌≡◌, Bool, List, ℕ}
use Rattle.model.specs.Steps.{Steps}
use Rattle.model.specs.Steps.End.{done, unsupported}
use Rattle.model.specs.Steps.Steps.{end, act, ask, get, look, wait}
use Rattle.model.specs.Run.{run}

-- no path ends unsupported
abbrev pub Supported : Steps → Type 0
Supported (end done) = Unit {0}
Supported (end unsupported) = ⊥
Supported (act a s) = Supported s
Supported (ask q k) = (x : ℕ) → Supported (k x)
Supported (get i s) = Supported s
Supported (look k) = (m : List ℕ) → Supported (k m)
Supported (wait c k u) = ((x : ℕ) → Supported (k x)) × Supported u

abbrev pub SupportedNever2 : Type 0
SupportedNever2 =
    (s : Steps) → Supported s → (limit : ℕ) (late : Bool) (room : ℕ) (answers m : List ℕ) → (run s limit late room answers m).number ≡ 2 → ⊥
