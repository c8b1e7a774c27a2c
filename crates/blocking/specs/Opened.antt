-- The bus that an opening hands back.
use Rattle.std.specs.Prelude.{◌≡◌, cond, List, ℕ, eqb, Some, None, option_map, unwrap_or}
use Rattle.access.specs.declared.progress.Progress.{Progress}
use Rattle.access.specs.Of.{state_of, number_in}
use Rattle.opening.specs.declared.Opening.{Opening}
use Rattle.opening.specs.Call.{Result, rate_of, opens}
use Rattle.blocking.specs.declared.BlockingQspi.{BlockingQspi}
use Rattle.blocking.specs.declared.Opened.{Opened}

-- the bus that was asked for
abbrev pub bus_of : Opening → ℕ → BlockingQspi
bus_of o limit =
    record {
      instance = o.instance;
      qpi = o.qpi;
      limit = limit;
      core_hz = o.core_hz;
      sck_hz = rate_of o;
      config = o.config;
    }

-- its rate; 0 without it
abbrev pub result_of : Opened → List ℕ → List ℕ → Result
result_of r log m =
    record { state = state_of r.progress log m; rate = unwrap_or (option_map (λ bus. bus.sck_hz) r.bus) 0 }

-- the bus with 0, and none without
abbrev pub handed : Opening → ℕ → Progress → Opened
handed o limit p = record { progress = p; bus = cond (eqb (number_in p) 0) (Some (bus_of o limit)) None }

pub record News (o : Opening) (limit : ℕ) (answers log : List ℕ) (r : Opened) (log' : List ℕ) : Type 0 where
  pub result : (m : List ℕ) → result_of r log' m ≡ opens o limit answers log m
  pub bus : r ≡ handed o limit r.progress
