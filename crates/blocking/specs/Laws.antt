-- What is proved of the bus that an opening hands back.
use Rattle.std.specs.Prelude.{◌≡◌, List, ℕ, Some}
use Rattle.clock.specs.Clocked.{BusRate}
use Rattle.opening.specs.declared.Opening.{Opening}
use Rattle.blocking.specs.declared.BlockingQspi.{BlockingQspi}
use Rattle.blocking.specs.declared.Opened.{Opened}
use Rattle.blocking.specs.Opened.{News}

-- Request 13: each opened bus has a rate from 1 to 100,000,000 Hz. One made by hand may have any.
abbrev pub OpenedBusRate : Type 0
OpenedBusRate =
    (o : Opening) (limit : ℕ) (answers log log' : List ℕ) (r : Opened) → News o limit answers log r log'
    → (bus : BlockingQspi) → r.bus ≡ Some bus → BusRate bus.sck_hz
