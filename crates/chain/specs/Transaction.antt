-- What a transaction, or a sheet's chain, gives its user for every input (document 01, "Transaction").
use Rattle.std.specs.Prelude.{◌≡◌, Bool, false, cond, eqb, List, ℕ, length, Result, Ok, Err, IfOk}
use Rattle.std.specs.Int.NonZero.{non_zero_u32_get}
use Rattle.std.specs.declared.num.NonZeroU32.{NonZeroU32}
use Rattle.model.specs.State.{State, limit_first, called}
use Rattle.access.specs.declared.progress.Progress.{Progress}
use Rattle.access.specs.Of.{state_of}
use Rattle.config.specs.declared.error.QspiError.TheVariants.{Limit}
use Rattle.records.specs.declared.Fault.{Fault}
use Rattle.records.specs.declared.rules.Rules.TheVariants.{Sheet, Transaction}
use Rattle.records.specs.Check.{Checked, checked, fault, verdict, number_of, chain_of}
use Rattle.chain.specs.declared.request.Settings.{Settings}
use Rattle.chain.specs.Chain.{chain_steps}

-- what the check finds: 7, at no record, then the first fault along the chain
unfoldable pub first_fault : ℕ → Checked → Result (Unit {0}) Fault
first_fault limit c = cond (eqb limit 0) (Err (fault Limit 0)) (verdict c)

-- by which number a chain is refused, or 0
unfoldable pub refusal : ℕ → Checked → ℕ
refusal limit c = limit_first limit (number_of (verdict c))

-- It is the number of what the check finds.
abbrev pub FaultNumber : Type 0
FaultNumber = (limit : ℕ) (c : Checked) → number_of (first_fault limit c) ≡ refusal limit c

-- what is to be run: the words of all records, in which `checked` finds document 01's *chain*, and what they are run
-- under
pub record Request : Type 0 where
  pub settings : Settings
  pub words : List ℕ

-- what the check finds in it, on a memory of that length
abbrev pub found_in : Request → ℕ → Checked
found_in c memory = checked c.settings.rules memory c.words

-- Number, counts, log and memory.
unfoldable pub outcome : Request → ℕ → List ℕ → List ℕ → List ℕ → State
outcome c limit answers log m =
    let found = found_in c (length m) in
    called (refusal limit found) (chain_steps c.settings (chain_of found)) limit answers log m

-- what the answer of a check says of faults
abbrev pub finding : {T : Type 0} → Result T Fault → Result (Unit {0}) Fault
finding (Ok x) = Ok tt
finding (Err f) = Err f

-- Answered by that fault; where there is none, the limit stands.
pub record Checks (limit : ℕ) (found : Result (Unit {0}) Fault) (answer : Result NonZeroU32 Fault) : Type 0 where
  pub is : finding answer ≡ found
  pub limited : IfOk answer (λ n. non_zero_u32_get n ≡ limit)

pub record Transacts (c : Request) (limit : ℕ) (answers log m : List ℕ) (r : Progress) (log' m' : List ℕ) : Type 0 where
  pub state : state_of r log' m' ≡ outcome c limit answers log m

-- A sheet's chain takes kinds 1 to 9.
abbrev pub sheet_chain : ℕ → Bool → List ℕ → Request
sheet_chain rate qpi words = record { settings = record { rate = rate; qpi = qpi; rules = Sheet }; words = words }

-- A transaction takes kinds 1 to 5, which neither the rate nor QPI matters to; its delays go by the core rate (request
-- 2).
abbrev pub transaction : ℕ → List ℕ → Request
transaction core_hz words =
    record { settings = record { rate = 0; qpi = false; rules = Transaction core_hz }; words = words }
