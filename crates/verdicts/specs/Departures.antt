-- The agreed departures from the Rust, one row each.
use Rattle.std.specs.Prelude.{ℕ, Bool, ◌&&◌, cond, List, [], ◌∷◌, Option, None, Some, eqb, bytes_eq, codes}
use Rattle.cases.specs.Find.{name_of}
use Rattle.cases.specs.Number.{numbers_of}
use Rattle.core_delays.specs.Delays.{opening_rate}
use Rattle.core_delays.specs.Due as delays
use Rattle.no_clock.specs.Opening.{without_clock}
use Rattle.verdicts.specs.Refused.{has_own, refusable, refused, open_name, refused_opening}
use Rattle.leaves_qpi.specs.Modes.{modes_of}
use Rattle.leaves_qpi.specs.Leaves.{has_modes, due}

-- Which cases it is about, by the case's line and the oracle's answer; and whether the library's answer to such a case,
-- the last argument, is the one that is due.
pub record Departure : Type 0 where
  pub about : List ℕ → List ℕ → Bool
  pub answered : List ℕ → List ℕ → List ℕ → Bool

-- the Rust panics, or has no form for the case; the call is refused
abbrev pub none_in_rust : Departure
none_in_rust =
    record {
      about = λ case oracle. refusable (name_of case) && has_own oracle;
      answered = λ case oracle library. refused (name_of case) library;
    }

-- modes that leave QPI clear bit 31 of 038, where the Rust keeps it (document 02, request 1)
abbrev pub leaves_qpi : Departure
leaves_qpi =
    record {
      about = λ case oracle. has_modes (name_of case);
      answered = λ case oracle library. bytes_eq (due (modes_of case) oracle) library;
    }

-- the row of the openings of whose numbers `holds` is true: they are refused by the number of these digits
abbrev pub openings_refused : (List ℕ → Bool) → List ℕ → Departure
openings_refused holds digits =
    record {
      about = λ case oracle. bytes_eq (name_of case) open_name && holds (numbers_of case);
      answered = λ case oracle library. bytes_eq library (refused_opening digits);
    }

-- at core rate 0 an opening is refused by 14, where the Rust has no core rate (document 02, request 2)
abbrev pub no_core_rate : Departure
no_core_rate = openings_refused (λ numbers. eqb (opening_rate numbers) 0) (codes "14")

-- an opening whose PLL has no eligible module clock is refused by 23, where the Rust opens (request 13)
abbrev pub no_clock : Departure
no_clock = openings_refused without_clock (codes "23")

-- the delay records of a transaction have the cycles of the core rate, or are refused by 14, where the Rust halves the
-- nanoseconds (request 2)
abbrev pub lasting_delays : Departure
lasting_delays =
    record {
      about = λ case oracle. bytes_eq (name_of case) (codes "transaction");
      answered = λ case oracle library. bytes_eq (delays.due (numbers_of case) oracle) library;
    }

-- the table
abbrev pub departures : List Departure
departures = none_in_rust ∷ leaves_qpi ∷ no_core_rate ∷ no_clock ∷ lasting_delays ∷ []

-- whether the first departure that is about the case allows the answer, if there is one
abbrev pub agreed_by : List Departure → List ℕ → List ℕ → List ℕ → Option Bool
agreed_by [] case oracle library = None
agreed_by (d ∷ ds) case oracle library =
    cond (d.about case oracle) (Some (d.answered case oracle library)) (agreed_by ds case oracle library)

unfoldable pub agreed : List ℕ → List ℕ → List ℕ → Option Bool
agreed case oracle library = agreed_by departures case oracle library
