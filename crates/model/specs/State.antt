-- What a caller sees between two steps: the number, the four counts, the lent log and the lent memory.
use Rattle.std.specs.Prelude.{false, cond, List, ℕ, ◌+◌, ◌-◌, ◌/◌, eqb, length, drop}
use Rattle.model.specs.Event.{answers_of, stored}
use Rattle.model.specs.Tally.{Tally, none, plus, tally_of}
use Rattle.model.specs.Steps.{Steps}
use Rattle.model.specs.Run.{Outcome, run}

pub record State : Type 0 where
  pub number : ℕ
  pub entries : ℕ  -- entries made
  pub taken : ℕ  -- answers taken
  pub tally : Tally
  pub log : List ℕ
  pub memory : List ℕ

-- a call that has made no entry, with the first answer next
abbrev pub begun : List ℕ → List ℕ → State
begun log m = record { number = 0; entries = 0; taken = 0; tally = none; log = log; memory = m }

abbrev pub with_number : ℕ → State → State
with_number n st = record { number = n; entries = st.entries; taken = st.taken; tally = st.tally; log = st.log; memory = st.memory }

abbrev pub with_memory : List ℕ → State → State
with_memory m st = record { number = st.number; entries = st.entries; taken = st.taken; tally = st.tally; log = st.log; memory = m }

-- the second state, whose failure wins; where it is done the number of the first stands
abbrev pub standing : State → State → State
standing first second = with_number (cond (eqb second.number 0) first.number second.number) second

-- entries that still fit the log, two words each: an odd last word is never used
unfoldable pub room_of : State → ℕ
room_of st = length st.log / 2 - st.entries

-- the state after a run
unfoldable pub ran : State → Outcome → State
ran st o =
    record {
      number = o.number;
      entries = st.entries + length o.trace;
      taken = st.taken + length (answers_of o.trace);
      tally = plus st.tally (tally_of o.trace);
      log = stored st.log st.entries o.trace;
      memory = o.memory;
    }

-- Onward from a state by what runs next; nothing runs once a number is not 0.
unfoldable pub onward : (ℕ → List ℕ → List ℕ → Outcome) → List ℕ → State → State
onward f answers st =
    let next = ran st (f (room_of st) (drop st.taken answers) st.memory) in
    cond (eqb st.number 0) next st

-- The steps from a state.
unfoldable pub advance : Steps → ℕ → List ℕ → State → State
advance s limit answers st = onward (run s limit false) answers st

-- 7 for limit 0, else what else is refused
abbrev pub limit_first : ℕ → ℕ → ℕ
limit_first limit other = cond (eqb limit 0) 7 other

-- A call from a state on. Once a number is not 0 nothing is done; a refusal sets the number and leaves all else as it
-- stands; else the steps run from there.
abbrev pub called_from : ℕ → Steps → ℕ → List ℕ → State → State
called_from refused s limit answers st =
    cond (eqb st.number 0) (cond (eqb refused 0) (advance s limit answers st) (with_number refused st)) st

-- A call as its user sees it (document 01: run), from no entry on: so a refusal leaves counts of 0, and the log and the
-- memory as they were.
unfoldable pub called : ℕ → Steps → ℕ → List ℕ → List ℕ → List ℕ → State
called refused s limit answers log m = called_from refused s limit answers (begun log m)
