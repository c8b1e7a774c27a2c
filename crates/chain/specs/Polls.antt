-- The records of a chain one after the other, and demand 3's bound on polls for each, whatever came before and however
-- it ends.
use Rattle.std.specs.Prelude.{◌≡◌, List, [], ◌∷◌, ◌++◌, ℕ, ◌+◌, ◌*◌, ◌/◌, ◌≤◌, length}
use Rattle.model.specs.State.{State, begun, advance}
use Rattle.model.specs.More.{Extends}
use Rattle.records.specs.Check.{field, chain_of}
use Rattle.chain.specs.declared.request.Settings.{Settings}
use Rattle.chain.specs.Chain.{chain_steps}
use Rattle.chain.specs.Transaction.{Request, found_in, refusal, outcome}

-- the state that the first records of a chain leave
unfoldable pub reached : Request → ℕ → List ℕ → List ℕ → List ℕ → List (List ℕ) → State
reached c limit answers log m rs = advance (chain_steps c.settings rs) limit answers (begun log m)

-- all of its records leave the outcome
abbrev pub ReachesOutcome : Type 0
ReachesOutcome =
    (c : Request) (limit : ℕ) (answers log m : List ℕ) → let found = found_in c (length m) in
    refusal limit found ≡ 0 → outcome c limit answers log m ≡ reached c limit answers log m (chain_of found)

-- Records behind others run from the state that those leave.
abbrev pub ChainsFollow : Type 0
ChainsFollow =
    (settings : Settings) (rs ss : List (List ℕ)) (limit : ℕ) (answers : List ℕ) (st : State)
    → advance (chain_steps settings (rs ++ ss)) limit answers st
    ≡ advance (chain_steps settings ss) limit answers (advance (chain_steps settings rs) limit answers st)

-- So that state is one of the same run: the outcome extends it.
abbrev pub FirstRecords : Type 0
FirstRecords =
    (c : Request) (limit : ℕ) (answers log m : List ℕ) (before behind : List (List ℕ))
    → let found = found_in c (length m) in
    refusal limit found ≡ 0 → chain_of found ≡ before ++ behind
    → Extends (reached c limit answers log m before) (outcome c limit answers log m)

-- record r, of this kind and behind these records, polls at most limit × waits times
abbrev pub PollsAtMost : ℕ → (List ℕ → ℕ) → Type 0
PollsAtMost kind waits =
    (c : Request) (limit : ℕ) (answers log m : List ℕ) (before : List (List ℕ)) (r : List ℕ) → field r 0 ≡ kind
    → (reached c limit answers log m (before ++ (r ∷ []))).tally.polls
    ≤ (reached c limit answers log m before).tally.polls + limit * waits r

-- what a write of n bytes waits, a read, and a mode
abbrev pub of_write : ℕ → ℕ
of_write n = n + 2

abbrev pub of_read : ℕ → ℕ
of_read n = n + 1

abbrev pub of_mode : ℕ
of_mode = 1

-- Of each kind its phases, each with its own bound, and its modes. In place there are so many parts, each a write and a
-- read; the frame of a quad read is a write of at most 16 bytes. `InTurn` has them one by one.
pub record ChainPolls : Type 0 where
  pub write : PollsAtMost 1 (λ r. of_write (field r 2))
  pub read : PollsAtMost 2 (λ r. of_read (field r 2))
  pub transfer : PollsAtMost 3 (λ r. of_write (field r 4) + of_read (field r 2))
  pub in_place : PollsAtMost 4 (λ r. field r 2 + field r 2 + 3 * ((field r 2 + 255) / 256))
  pub delay : PollsAtMost 5 (λ r. 0)
  pub flush : PollsAtMost 6 (λ r. 1)
  pub mode : PollsAtMost 7 (λ r. of_mode)
  pub quad_read : PollsAtMost 8 (λ r. of_write 16 + of_mode + (of_read (field r 6) + of_mode))
  pub quad_write : PollsAtMost 9 (λ r. of_write (field r 2) + of_mode + (of_write (field r 6) + of_mode))
