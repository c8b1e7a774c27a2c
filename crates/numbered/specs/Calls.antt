-- The calls whose work mode or configuration may be none: refused, or the call with it.
use Rattle.std.specs.Prelude.{◌≡◌, Bool, List, ℕ, Option, Some, None, option_map}
use Rattle.model.specs.State.{State, begun, with_number}
use Rattle.config.specs.declared.config.WorkMode.{WorkMode}
use Rattle.config.specs.declared.config.QspiConfig.{QspiConfig}
use Rattle.config_numbers.specs.Limit.{no_mode}
use Rattle.access.specs.declared.progress.Progress.{Progress}
use Rattle.access.specs.Of.{state_of}
use Rattle.bus.specs.Calls.{Call, outcome}
use Rattle.opening.specs.declared.ClockTree.{ClockTree}
use Rattle.opening.specs.declared.Opening.{Opening}
use Rattle.opening.specs.declared.Opened.{Opened}
use Rattle.opening.specs.Call.{Result, opens, result_of}

-- A number that is no mode is refused; else the call of that mode.
abbrev pub mode_outcome : Option WorkMode → Bool → ℕ → List ℕ → List ℕ → List ℕ → State
mode_outcome (Some work) qpi limit answers log m = outcome (Call.set_work_mode qpi work) limit answers log m
mode_outcome None qpi limit answers log m = with_number (no_mode limit) (begun log m)

-- what is opened with a configuration that was found
abbrev pub opening_with : ℕ → Bool → ℕ → ClockTree → Option QspiConfig → Option Opening
opening_with instance qpi core_hz tree =
    option_map
    (λ config. record { instance = instance; qpi = qpi; core_hz = core_hz; config = config; clock_tree = tree })

-- Where none was found 8, as for a field out of range, before anything else is tested; else the opening.
abbrev pub opening_outcome : Option Opening → ℕ → List ℕ → List ℕ → List ℕ → Result
opening_outcome (Some opening) limit answers log m = opens opening limit answers log m
opening_outcome None limit answers log m = record { state = with_number 8 (begun log m); rate = 0 }

pub record CalledMode (found : Option WorkMode) (qpi : Bool) (limit : ℕ) (answers log : List ℕ) (r : Progress)
    (log' : List ℕ) : Type 0 where
  pub state : (m : List ℕ) → state_of r log' m ≡ mode_outcome found qpi limit answers log m

pub record OpensFound (found : Option Opening) (limit : ℕ) (answers log : List ℕ) (r : Opened)
    (log' : List ℕ) : Type 0 where
  pub result : (m : List ℕ) → result_of r log' m ≡ opening_outcome found limit answers log m
