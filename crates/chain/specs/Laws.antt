-- Demand 3 for a chain as one run, what a refusal leaves, and which fields of a record matter.
use Rattle.std.specs.Prelude.{◌≡◌, Bool, true, false, not, ◌&&◌, List, [], ◌∷◌, ◌++◌, map, ℕ, ◌<◌, eqb, length, get_or}
use Rattle.std.specs.Prelude.{set, replicate}
use Rattle.model.specs.State.{State, begun, with_number}
use Rattle.model.specs.Ends.{Met}
use Rattle.model.specs.Called.{Untouched}
use Rattle.model.specs.Limit.{Ended, AgainCall}
use Rattle.model.specs.Refusable.{Refusable, limited, Steady}
use Rattle.records.specs.Kinds.{kind_of}
use Rattle.std.specs.List.{list_any}
use Rattle.records.specs.declared.rules.Rules.TheVariants.{Sheet}
use Rattle.records.specs.Check.{checked, verdict, number_of, chain_of}
use Rattle.records.specs.Laws.{Alike}
use Rattle.chain.specs.Chain.{record_steps, chain_steps}
use Rattle.chain.specs.declared.request.Settings.{Settings}
use Rattle.chain.specs.Transaction.{Request, found_in, refusal, outcome, sheet_chain, transaction}

-- a chain on a memory of that length, as model lifts laws to it: refused by 7 at limit 0, then by its first fault; its
-- outcome is what is made of this
abbrev pub refusable : Request → ℕ → Refusable
refusable c memory =
    let found = found_in c memory in
    limited (number_of (verdict found)) (chain_steps c.settings (chain_of found))

abbrev pub ChainSteady : Type 0
ChainSteady = (c : Request) (memory : ℕ) → Steady (refusable c memory)

abbrev pub ChainAgain : Type 0
ChainAgain =
    (c : Request) (limit limit' : ℕ) (answers more log m : List ℕ) → 0 < limit'
    → Ended (outcome c limit answers log m).number
    → AgainCall limit' (outcome c limit answers log m) (outcome c limit' (answers ++ more) log m)

-- A refusal touches neither log nor memory, and all counts are 0.
abbrev pub ChainRefused : Type 0
ChainRefused =
    (c : Request) (limit : ℕ) (answers log m : List ℕ) → let n = refusal limit (found_in c (length m)) in
    (n ≡ 0 → ⊥) → outcome c limit answers log m ≡ with_number n (begun log m)

-- By its number: a chain that ends in a number that no steps end in has touched neither.
abbrev pub ChainUntouched : Type 0
ChainUntouched =
    (c : Request) (limit : ℕ) (answers log m : List ℕ) → (Met (outcome c limit answers log m).number → ⊥)
    → Untouched log m (outcome c limit answers log m)

-- A transaction never gives 2: kinds 1 to 5 set no mode.
abbrev pub TransactionNever2 : Type 0
TransactionNever2 =
    (core_hz : ℕ) (words : List ℕ) (limit : ℕ) (answers log m : List ℕ)
    → (outcome (transaction core_hz words) limit answers log m).number ≡ 2 → ⊥

-- Unused fields are not looked at: records that differ at most there run alike. An instance of such records is in
-- `records`.
abbrev pub UnusedFieldsRun : Type 0
UnusedFieldsRun =
    (r s : List ℕ) → Alike r s → (settings : Settings) → record_steps settings r ≡ record_steps settings s

-- a chain of one record, with room for one entry
abbrev pub alone : List ℕ → State
alone r = outcome (sheet_chain 100_000_000 true r) 1 (0 ∷ []) (0 ∷ 0 ∷ []) (0 ∷ [])

-- does 256 for 0 in a field of a record of zeros show, in the number or in the entry
abbrev pub matters : ℕ → ℕ → Bool
matters kind f =
    let zeros = kind ∷ replicate 7 0 in
    let a = alone zeros in
    let b = alone (set zeros f 256) in
    let same : ℕ → Bool = λ k. eqb (get_or a.log k 0) (get_or b.log k 0) in
    not (eqb a.number b.number && (same 0 && same 1))

-- for each of the kinds 1 to 9, of each of the fields 1 to 6
abbrev pub of_each : (ℕ → ℕ → Bool) → List (List Bool)
of_each p = map (λ kind. map (p kind) (1 ∷ 2 ∷ 3 ∷ 4 ∷ 5 ∷ 6 ∷ [])) (1 ∷ 2 ∷ 3 ∷ 4 ∷ 5 ∷ 6 ∷ 7 ∷ 8 ∷ 9 ∷ [])

-- The fields that the table of kinds has as used are those that matter.
abbrev pub UsedFields : Type 0
UsedFields = of_each (λ kind f. list_any (eqb f) (kind_of kind).used) ≡ of_each matters

-- a chain of one flush, whose first poll is unready
abbrev pub flushed : ℕ → State
flushed limit =
    outcome (sheet_chain 0 false (6 ∷ 0 ∷ 0 ∷ 0 ∷ 0 ∷ 0 ∷ 0 ∷ 0 ∷ [])) limit (0x80000000 ∷ 0 ∷ []) (replicate 4 7) []

-- a chain of a quad write and a quad read of one byte each, and then mode QPI, whose first poll is unready, on a chip
-- without it
abbrev pub quad_words : List ℕ
quad_words =
    9 ∷ 0 ∷ 1 ∷ 0 ∷ 0 ∷ 1 ∷ 1 ∷ 2
    ∷ 8 ∷ 0 ∷ 1 ∷ 80 ∷ 0 ∷ 1 ∷ 1 ∷ 3
    ∷ 7 ∷ 6 ∷ 0 ∷ 0 ∷ 0 ∷ 0 ∷ 0 ∷ 0
    ∷ []

abbrev pub quad_answers : List ℕ
quad_answers = replicate 38 0 ++ (1 ∷ 0x5a ∷ 0 ∷ 0 ∷ 0 ∷ 0 ∷ 0x80000000 ∷ 0 ∷ [])

-- with a log of 4,096 entries, as a sheet's
abbrev pub quads : State
quads = outcome (sheet_chain 100_000_000 false quad_words) 2 quad_answers (replicate 8192 0) (0x9f ∷ 0 ∷ [])

-- What the laws ask for can be had: a chain that ends in 0 after an unready poll, also at a limit that is not above its
-- longest, where it ends in 1; one with quad records that ends in 2; and one that is refused.
pub record HypothesesMet : Type 0 where
  pub ended : Ended (flushed 2).number
  pub unready : 0 < (flushed 2).tally.longest
  pub late : (flushed 1).number ≡ 1
  pub unsupported : quads.number ≡ 2
  pub received : quads.memory ≡ 0x9f ∷ 0x5a ∷ []
  pub refused : refusal 0 (checked Sheet 0 []) ≡ 0 → ⊥
  pub not_met : Met (flushed 0).number → ⊥
  -- the quad records are not refused, and are three
  pub accepted : refusal 2 (checked Sheet 2 quad_words) ≡ 0
  pub records : length (chain_of (checked Sheet 2 quad_words)) ≡ 3
