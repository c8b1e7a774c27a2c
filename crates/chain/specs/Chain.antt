-- A chain as steps: each record gets log, answers and memory as the last left them (document 01, "Chain and sheet").
use Rattle.std.specs.Prelude.{Bool, List, [], ◌∷◌, ℕ, get_or, Option, Some, None}
use Rattle.model.specs.Wait.Cause.{start}
use Rattle.model.specs.Steps.{Steps, then, pause, wait_for}
use Rattle.model.specs.Steps.End.{done}
use Rattle.model.specs.Steps.Steps.{end}
use Rattle.config.specs.Config.{work_mode_of}
use Rattle.config.specs.declared.config.WorkMode.{WorkMode}
use Rattle.qspi.specs.Phases.{rx_phase}
use Rattle.mode.specs.Mode.{work_mode_steps}
use Rattle.transfer.specs.Transfer.{in_place_steps}
use Rattle.windows.specs.Windows.{write_window, transfer_windows, read_quad_windows, write_quad_windows}
use Rattle.records.specs.Rules.{cycles}
use Rattle.records.specs.Check.{field}
use Rattle.chain.specs.declared.request.Settings.{Settings}

-- the mode of a number; the check lets no other number through
abbrev pub mode_steps : Bool → Option WorkMode → Steps
mode_steps qpi (Some mode) = work_mode_steps qpi mode
mode_steps qpi None = end done

-- the steps of each kind, by the fields of a record; there is no kind 0
abbrev pub kind_steps : Settings → (ℕ → ℕ) → List Steps
kind_steps settings f =
    end done
    ∷ write_window (f 1) (f 2)  -- 1 write
    ∷ rx_phase (f 1) (f 2)  -- 2 read
    ∷ transfer_windows (f 1) (f 2) (f 3) (f 4)  -- 3 transfer: read f1 f2, write f3 f4
    ∷ in_place_steps (f 1) (f 2)  -- 4 in place
    ∷ pause (cycles settings.rules (f 1))  -- 5 delay
    ∷ wait_for start  -- 6 flush
    ∷ mode_steps settings.qpi (work_mode_of (f 1))  -- 7 mode
    -- 8 quad read: command f1 f2, tclqv f3, margin f4, data f5 f6
    ∷ read_quad_windows settings.rate (f 1) (f 2) (f 3) (f 4) (f 5) (f 6)
    ∷ write_quad_windows (f 1) (f 2) (f 5) (f 6)  -- 9 quad write: command f1 f2, data f5 f6
    ∷ []

unfoldable pub record_steps : Settings → List ℕ → Steps
record_steps settings r = get_or (kind_steps settings (field r)) (field r 0) (end done)

-- one record after the other; the first number other than 0 ends it
unfoldable pub chain_steps : Settings → List (List ℕ) → Steps
chain_steps settings [] = end done
chain_steps settings (r ∷ rs) = then (record_steps settings r) (chain_steps settings rs)
