-- The check and the run of a sheet (document 01, "Chain and sheet"): its chain as a transaction of kinds 1 to 9, on its
-- memory. By request 2 it keeps document 01's delays.
use Rattle.std.specs.Prelude.{◌≡◌, List, [], ◌++◌, ℕ, ◌-◌, None, Result, Ok, Err, eqb, length, take}
use Rattle.std.proofs.Common.{Bor}
use Rattle.model.specs.State.{State, begun, with_number, with_memory}
use Rattle.config.specs.declared.error.QspiError.TheVariants.{Sheet as Thirteen}
use Rattle.access.specs.declared.progress.Progress.{Progress}
use Rattle.access.specs.Of.{state_of}
use Rattle.records.specs.declared.Fault.{Fault}
use Rattle.records.specs.declared.rules.Rules.TheVariants as rules
use Rattle.records.specs.Check.{fault}
use Rattle.chain.specs.declared.request.Request as code
use Rattle.chain.specs.Transaction.{Request, found_in, first_fault, outcome, sheet_chain}
use Rattle.sheet.specs.declared.Header.{Header}
use Rattle.sheet.specs.Open.{number_of}
use Rattle.sheet.specs.Sheet.{Sheet, Parsed, refused, sheet, parse}

abbrev pub chain_in : Sheet → Request
chain_in s = sheet_chain s.rate (eqb s.qpi 1) s.records

-- the same of a header, with the words that were read
abbrev pub request_read : Header → Bor (List ℕ) → code.Request
request_read h words =
    record { settings = record { rate = h.rate; qpi = h.qpi; rules = rules.Sheet }; words = words }

-- what the check finds: 13, which precedes the rest, then 7, each at no record, then the first fault along the chain
unfoldable pub sheet_fault : Parsed → Result (Unit {0}) Fault
sheet_fault refused = Err (fault Thirteen 0)
sheet_fault (sheet s) = first_fault s.limit (found_in (chain_in s) (length s.memory))

-- what is answered: the header, where no fault is found
abbrev pub header_unless : Header → Result (Unit {0}) Fault → Result Header Fault
header_unless h (Ok none) = Ok h
header_unless h (Err f) = Err f

-- 13, which precedes the rest and has no memory, or the chain's outcome
unfoldable pub sheet_outcome : Parsed → List ℕ → State
sheet_outcome refused log = with_number (number_of None) (begun log [])
sheet_outcome (sheet s) log = outcome (chain_in s) s.limit s.answers log s.memory

-- the lent bytes with another memory behind header, records and answers; refused ones as they were
abbrev pub bytes_with : List ℕ → Parsed → List ℕ → List ℕ
bytes_with bs refused m = bs
bytes_with bs (sheet s) m = take (length bs - length s.memory) bs ++ m

-- number, counts, log, and the bytes, for bytes that are read so
abbrev pub state_read : List ℕ → Parsed → List ℕ → State
state_read bs p log = let st = sheet_outcome p log in with_memory (bytes_with bs p st.memory) st

unfoldable pub sheet_state : List ℕ → List ℕ → State
sheet_state bs log = state_read bs (parse bs) log

-- what was read, with answers in place of the sheet's own
abbrev pub with_answers : List ℕ → Parsed → Parsed
with_answers xs refused = refused
with_answers xs (sheet s) =
    sheet (record { limit = s.limit; rate = s.rate; qpi = s.qpi; records = s.records; answers = xs; memory = s.memory })

unfoldable pub state_with : List ℕ → List ℕ → List ℕ → State
state_with xs bs log = state_read bs (with_answers xs (parse bs)) log

pub record RunsSheet (bs log : List ℕ) (r : Progress) (log' bs' : List ℕ) : Type 0 where
  pub state : state_of r log' bs' ≡ sheet_state bs log

pub record RunsWith (xs bs log : List ℕ) (r : Progress) (log' bs' : List ℕ) : Type 0 where
  pub state : state_of r log' bs' ≡ state_with xs bs log
