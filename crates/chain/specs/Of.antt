-- What the code's values stand for in the definitions.
use Rattle.std.specs.Prelude.{ℕ, ◌+◌, ◌^◌, ◌≤◌, ◌<◌}
use Rattle.model.specs.Wait.Cause.{start}
use Rattle.model.specs.Steps.{Steps, pause, wait_for}
use Rattle.qspi.specs.Phases.{rx_phase}
use Rattle.mode.specs.Mode.{work_mode_steps}
use Rattle.transfer.specs.Transfer.{in_place_steps}
use Rattle.windows.specs.Windows.{write_window, transfer_windows, read_quad_windows, write_quad_windows}
use Rattle.records.specs.declared.record.Record.{Record}
use Rattle.records.specs.declared.record.Record.TheVariants.{Write, Read, Transfer, TransferInPlace, Delay, Flush, Mode}
use Rattle.records.specs.declared.record.Record.TheVariants.{QuadRead, QuadWrite}
use Rattle.records.specs.declared.extent.Extent.{Extent}
use Rattle.records.specs.declared.rules.Rules.{Rules}
use Rattle.records.specs.Rules.{cycles}
use Rattle.chain.specs.declared.request.Request as code
use Rattle.chain.specs.declared.request.Settings.{Settings}
use Rattle.chain.specs.Transaction.{Request}

abbrev pub request_of : code.Request → Request
request_of r = record { settings = r.settings; words = r.words.now }

-- the steps of a record under such settings
abbrev pub steps_of : Settings → Record → Steps
steps_of settings (Write w) = write_window w.start w.size
steps_of settings (Read w) = rx_phase w.start w.size
steps_of settings (Transfer read write) = transfer_windows read.start read.size write.start write.size
steps_of settings (TransferInPlace w) = in_place_steps w.start w.size
steps_of settings (Delay ns) = pause (cycles settings.rules ns)
steps_of settings Flush = wait_for start
steps_of settings (Mode mode) = work_mode_steps settings.qpi mode
steps_of settings (QuadRead command tclqv margin w) =
    read_quad_windows settings.rate command.start command.size tclqv margin w.start w.size
steps_of settings (QuadWrite command w) = write_quad_windows command.start command.size w.start w.size

-- a window in a memory of that length, and one that is a phase's
abbrev pub Within : ℕ → Extent → Type 0
Within memory w = w.start + w.size ≤ memory

abbrev pub Phase : ℕ → Extent → Type 0
Phase memory w = Within memory w × (w.size < 2 ^ 24)

-- the windows of a record in which no fault was found, and the cycles of a delay
abbrev pub Fits : Rules → ℕ → Record → Type 0
Fits rules memory (Write w) = Phase memory w
Fits rules memory (Read w) = Phase memory w
Fits rules memory (Transfer read write) = Phase memory read × Phase memory write
Fits rules memory (TransferInPlace w) = Within memory w
Fits rules memory (Delay ns) = cycles rules ns ≤ 0xFFFFFFFF
Fits rules memory Flush = Unit {0}
Fits rules memory (Mode mode) = Unit {0}
Fits rules memory (QuadRead command tclqv margin w) = Within memory command × Phase memory w
Fits rules memory (QuadWrite command w) = Phase memory command × Phase memory w
