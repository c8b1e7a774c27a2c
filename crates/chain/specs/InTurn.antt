-- Each phase on a chain keeps its own bound on polls: a record goes from state to state by its phases and its modes in
-- turn.
use Rattle.std.specs.Prelude.{◌≡◌, Bool, List, [], ◌∷◌, ◌++◌, ℕ, zero, suc, ◌+◌, ◌-◌, ◌*◌, ◌/◌, ◌≤◌, ◌<◌, length, min}
use Rattle.std.specs.Prelude.{Option, Some, None}
use Rattle.model.specs.Wait.Cause.{start}
use Rattle.model.specs.Event.{Act}
use Rattle.model.specs.Steps.{wait_for}
use Rattle.model.specs.Steps.End.{done}
use Rattle.model.specs.Steps.Steps.{end, act}
use Rattle.model.specs.State.{State, with_number, standing, advance}
use Rattle.model.specs.More.{Extends}
use Rattle.config.specs.Config.{work_mode_of}
use Rattle.config.specs.declared.config.WorkMode.{WorkMode}
use Rattle.qspi.specs.Phases.{tx_phase, rx_phase}
use Rattle.mode.specs.Mode.{work_mode_steps}
use Rattle.windows.specs.Windows.{standard_mode}
use Rattle.records.specs.Check.{field}
use Rattle.chain.specs.Transaction.{Request}
use Rattle.chain.specs.Polls.{of_write, of_read, of_mode, reached}

-- a phase that writes so many bytes at most, one that reads so many, a mode; a wait alone, and one access
pub data Part : Type 0 where
  writes reads : ℕ → Part
  mode flush access : Part

-- how many times the limit a part polls at most
abbrev pub waits_of : Part → ℕ
waits_of (writes n) = of_write n
waits_of (reads n) = of_read n
waits_of mode = of_mode
waits_of flush = 1
waits_of access = 0

-- A part from one state to the next, as the call stands there; after data that failed a mode is tried all the same.
pub data Passes (limit : ℕ) (answers : List ℕ) : Part → State → State → Type 0 where
  written : (n : ℕ) (single : Bool) (bytes : List ℕ) (st : State) → length bytes ≤ n
      → Passes limit answers (writes n) st (advance (tx_phase single bytes) limit answers st)
  read : (at n : ℕ) (st : State) → Passes limit answers (reads n) st (advance (rx_phase at n) limit answers st)
  set : (qpi : Bool) (m : WorkMode) (st : State)
      → Passes limit answers mode st (advance (work_mode_steps qpi m) limit answers st)
  tried : (st : State)
      → Passes limit answers mode st (standing st (advance standard_mode limit answers (with_number 0 st)))
  flushed : (st : State) → Passes limit answers flush st (advance (wait_for start) limit answers st)
  made : (a : Act) (st : State) → Passes limit answers access st (advance (act a (end done)) limit answers st)

-- So each part goes on from the state before it, and polls at most so often.
pub record Keeps (limit waits : ℕ) (st st' : State) : Type 0 where
  pub extends : Extends st st'
  pub polls : st'.tally.polls ≤ st.tally.polls + limit * waits

abbrev pub EveryPartKeeps : Type 0
EveryPartKeeps =
    (limit : ℕ) (answers : List ℕ) (p : Part) (st st' : State) → Passes limit answers p st st'
    → Keeps limit (waits_of p) st st'

-- One part after the other, from the first state to the last; where the number is not 0 no more need be done.
pub data InTurn (limit : ℕ) (answers : List ℕ) : List Part → State → State → Type 0 where
  finished : (st : State) → InTurn limit answers [] st st
  part : (p : Part) (ps : List Part) (st next last : State) → Passes limit answers p st next
      → InTurn limit answers ps next last
      → InTurn limit answers (p ∷ ps) st last
  stopped : (ps : List Part) (st : State) → (st.number ≡ 0 → ⊥) → InTurn limit answers ps st st

-- record r, of this kind and behind these records, is these parts in turn
abbrev pub PartsOf : ℕ → (List ℕ → List Part) → Type 0
PartsOf kind parts =
    (c : Request) (limit : ℕ) (answers log m : List ℕ) (before : List (List ℕ)) (r : List ℕ) → 0 < limit
    → field r 0 ≡ kind
    → InTurn limit answers (parts r) (reached c limit answers log m before)
    (reached c limit answers log m (before ++ (r ∷ [])))

-- so many parts of 256 bytes, the last of what is left, each written and then read
abbrev pub parts_of : ℕ → ℕ → List Part
parts_of zero n = []
parts_of (suc count) n = let part = min 256 n in writes part ∷ reads part ∷ parts_of count (n - part)

-- a mode, by its number; the check lets no other number through
abbrev pub mode_of : Option WorkMode → List Part
mode_of (Some m) = mode ∷ []
mode_of None = []

pub record ChainParts : Type 0 where
  pub write : PartsOf 1 (λ r. writes (field r 2) ∷ [])
  pub read_alone : PartsOf 2 (λ r. reads (field r 2) ∷ [])
  pub transfer : PartsOf 3 (λ r. writes (field r 4) ∷ reads (field r 2) ∷ [])
  pub in_place : PartsOf 4 (λ r. parts_of ((field r 2 + 255) / 256) (field r 2))
  pub delay : PartsOf 5 (λ r. access ∷ [])
  pub flush_alone : PartsOf 6 (λ r. flush ∷ [])
  pub mode_alone : PartsOf 7 (λ r. mode_of (work_mode_of (field r 1)))
  pub quad_read : PartsOf 8 (λ r. writes 16 ∷ mode ∷ reads (field r 6) ∷ mode ∷ [])
  pub quad_write : PartsOf 9 (λ r. writes (field r 2) ∷ mode ∷ writes (field r 6) ∷ mode ∷ [])
