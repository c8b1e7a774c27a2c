-- A record by its kind, with the fields that the kind uses (document 01, "Chain and sheet").
use Rattle.std.specs.Prelude.{ℕ, true, false, cond, leb, List, [], ◌∷◌, Option, Some, None, option_map, get_or}
use Rattle.config.specs.Config.{work_mode_of}
use Rattle.records.specs.declared.extent.Extent.{Extent}
use Rattle.records.specs.declared.record.Record.{Record}
use Rattle.records.specs.declared.record.Record.TheVariants.{Write, Read, Transfer, TransferInPlace, Delay, Flush, Mode}
use Rattle.records.specs.declared.record.Record.TheVariants.{QuadRead, QuadWrite}
use Rattle.records.specs.Check.{field, extent}

-- The record of each kind, by the fields of its words, where they are in range; there is no kind 0.
abbrev pub records_of : (ℕ → ℕ) → List (Option Record)
records_of f =
    None
    ∷ Some (Write (extent (f 1) (f 2) true))  -- 1 write
    ∷ Some (Read (extent (f 1) (f 2) true))  -- 2 read
    ∷ Some (Transfer (extent (f 1) (f 2) true) (extent (f 3) (f 4) true))  -- 3 transfer: read f1 f2, write f3 f4
    ∷ Some (TransferInPlace (extent (f 1) (f 2) false))  -- 4 in place
    ∷ Some (Delay (f 1))  -- 5 delay
    ∷ Some Flush  -- 6 flush
    ∷ option_map Mode (work_mode_of (f 1))  -- 7 mode
    -- 8 quad read: command f1 f2, tclqv f3, margin f4, data f5 f6
    ∷ cond (leb (f 4) 255) (Some (QuadRead (extent (f 1) (f 2) false) (f 3) (f 4) (extent (f 5) (f 6) true))) None
    ∷ Some (QuadWrite (extent (f 1) (f 2) true) (extent (f 5) (f 6) true))  -- 9 quad write: command f1 f2, data f5 f6
    ∷ []

unfoldable pub record_of : List ℕ → Option Record
record_of r = get_or (records_of (field r)) (field r 0) None

-- its windows
abbrev pub windows_of : Record → List Extent
windows_of (Write w) = w ∷ []
windows_of (Read w) = w ∷ []
windows_of (Transfer read write) = read ∷ write ∷ []
windows_of (TransferInPlace w) = w ∷ []
windows_of (Delay ns) = []
windows_of Flush = []
windows_of (Mode mode) = []
windows_of (QuadRead command tclqv margin w) = command ∷ w ∷ []
windows_of (QuadWrite command w) = command ∷ w ∷ []
