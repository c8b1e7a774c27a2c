-- Polls counted again from the words of a log, which do not say of a read of 008 whether it is a poll or part of a
-- change.
use Rattle.std.specs.Prelude.{◌≡◌, cond, List, [], ◌∷◌, ◌⊎◌, ℕ, suc, ◌+◌, ◌*◌, eqb, take, replicate}
use Rattle.model.specs.State.{State}
use Rattle.bus.specs.Calls as bus
use Rattle.chain.specs.Transaction as chain
use Rattle.sheet.specs.Sheet.{parse}
use Rattle.sheet_run.specs.Run.{sheet_outcome}

-- the entries in log words, two an entry, whose first word is this
unfoldable pub entries_with : ℕ → List ℕ → ℕ
entries_with head [] = 0
entries_with head (w ∷ []) = 0
entries_with head (w ∷ v ∷ ws) = cond (eqb w head) 1 0 + entries_with head ws

-- the reads at 01C and at 008, and the writes at 008
abbrev pub reads : List ℕ → ℕ
reads ws = entries_with (1 * 65536 + 0x01c) ws + entries_with (1 * 65536 + 0x008) ws

abbrev pub writes : List ℕ → ℕ
writes ws = entries_with (2 * 65536 + 0x008) ws

-- the words of the entries that were made
abbrev pub made : State → List ℕ
made st = take (st.entries * 2) st.log

-- The polls are the reads less the writes; with 10 there may be one read more, of a change at 008 whose write did not
-- fit.
pub record Recounts (st : State) : Type 0 where
  pub whole : (st.number ≡ 10 → ⊥) → reads (made st) ≡ st.tally.polls + writes (made st)
  pub cut : (reads (made st) ≡ st.tally.polls + writes (made st))
      ⊎ (reads (made st) ≡ suc (st.tally.polls + writes (made st)))

abbrev pub CallsRecount : Type 0
CallsRecount = (call : bus.Call) (limit : ℕ) (answers log m : List ℕ) → Recounts (bus.outcome call limit answers log m)

abbrev pub ChainsRecount : Type 0
ChainsRecount =
    (c : chain.Request) (limit : ℕ) (answers log m : List ℕ) → Recounts (chain.outcome c limit answers log m)

abbrev pub SheetsRecount : Type 0
SheetsRecount = (bs log : List ℕ) → Recounts (sheet_outcome (parse bs) log)

-- a write of one byte with ready answers, in a log of so many words
abbrev pub written : ℕ → State
written n = bus.outcome (bus.Call.write (0x9f ∷ [])) 3 (replicate 8 0) (replicate n 0) []

-- What the law speaks of can be had: a write that is done, and one whose log is full between the read and the write of
-- START.
pub record HypothesesMet : Type 0 where
  pub done : (written 30).number ≡ 0
  pub counted : (reads (made (written 30)) ≡ 4) × ((written 30).tally.polls ≡ 3) × (writes (made (written 30)) ≡ 1)
  pub full : (written 20).number ≡ 10
  pub more : reads (made (written 20)) ≡ suc ((written 20).tally.polls + writes (made (written 20)))
