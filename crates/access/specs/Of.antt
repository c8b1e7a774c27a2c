-- What the code's values stand for in the definitions.
use Rattle.std.specs.Prelude.{◌≡◌, List, ℕ, Result, Ok, Err, IfOk}
use Rattle.std.specs.Int.NonZero.{non_zero_u32_get}
use Rattle.std.specs.declared.num.NonZeroU32.{NonZeroU32}
use Rattle.model.specs.Wait as wait
use Rattle.model.specs.Event as event
use Rattle.model.specs.Tally as tally
use Rattle.model.specs.State.{State}
use Rattle.access.specs.declared.progress.Cause.{Cause}
use Rattle.access.specs.declared.progress.Cause.TheVariants.{Space, Received, Empty, Start}
use Rattle.access.specs.declared.progress.Tally.{Tally}
use Rattle.access.specs.declared.progress.Progress.{Progress}
use Rattle.config.specs.declared.error.QspiError.{QspiError}
use Rattle.config.specs.Error.{ended_number}
use Rattle.access.specs.declared.entry.Act.{Act}
use Rattle.access.specs.declared.entry.Act.TheVariants.{Write, Send, Delay}
use Rattle.access.specs.declared.entry.Ask.{Ask}
use Rattle.access.specs.declared.entry.Ask.TheVariants.{Register, Byte}

abbrev pub cause_of : Cause → wait.Cause
cause_of Space = wait.Cause.space
cause_of Received = wait.Cause.received
cause_of Empty = wait.Cause.empty
cause_of Start = wait.Cause.start

abbrev pub act_of : Act → event.Act
act_of (Write place value) = event.Act.write place value
act_of (Send b) = event.Act.send b
act_of (Delay cycles) = event.Act.delay cycles

abbrev pub ask_of : Ask → event.Ask
ask_of (Register place) = event.Ask.register place
ask_of Byte = event.Ask.byte

abbrev pub tally_in : Tally → tally.Tally
tally_in t = record { polls = t.polls; longest = t.longest }

abbrev pub number_in : Progress → ℕ
number_in p = ended_number p.ended

-- the state of a progress with its log and memory
abbrev pub state_of : Progress → List ℕ → List ℕ → State
state_of p log m =
    record {
      number = number_in p;
      entries = p.entries;
      taken = p.taken;
      tally = tally_in p.tally;
      log = log;
      memory = m;
    }

-- no entry, and the first answer next
abbrev pub begun : Progress
begun = record { ended = Ok tt; entries = 0; taken = 0; tally = record { polls = 0; longest = 0 } }

abbrev pub with_ended : Result (Unit {0}) QspiError → Progress → Progress
with_ended e p = record { ended = e; entries = p.entries; taken = p.taken; tally = p.tally }

abbrev pub with_counts : ℕ → ℕ → Progress → Progress
with_counts entries taken p = record { ended = p.ended; entries = entries; taken = taken; tally = p.tally }

abbrev pub with_tally : Tally → Progress → Progress
with_tally t p = record { ended = p.ended; entries = p.entries; taken = p.taken; tally = t }

-- refused before any access
abbrev pub refused : QspiError → Progress
refused e = with_ended (Err e) begun

-- Refused by that number; not, where it is 0, and then the limit stands.
pub record Refuses (limit number : ℕ) (answer : Result NonZeroU32 QspiError) : Type 0 where
  pub is : ended_number answer ≡ number
  pub limited : IfOk answer (λ n. non_zero_u32_get n ≡ limit)
