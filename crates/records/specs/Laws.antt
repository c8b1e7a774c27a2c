-- What is proved of the check, whatever the words.
use Rattle.std.specs.Prelude.{◌≡◌, true, not, ◌&&◌, List, [], ◌∷◌, ◌⊎◌, ℕ, ◌-◌, ◌*◌, ◌^◌, ◌≤◌, ◌<◌, Ok, Err}
use Rattle.std.specs.Prelude.{is_some, IfSome, get_or}
use Rattle.config.specs.Error.{error_number}
use Rattle.records.specs.declared.rules.Rules.{Rules}
use Rattle.records.specs.declared.rules.Rules.TheVariants.{Sheet, Transaction}
use Rattle.records.specs.Rules.{highest, cycles}
use Rattle.records.specs.Kinds.{kind_of}
use Rattle.records.specs.Check.{known, out_of_range, field, next_of, extents_of, record_fault}
use Rattle.records.specs.Check.{Checked, checked, chain_of}
use Rattle.records.specs.Record.{record_of, windows_of}

-- a fault has such a number
abbrev pub EachFault : (ℕ → Type 0) → Checked → Type 0
EachFault P (Err f) = P (error_number f.error)
EachFault P (Ok rs) = Unit {0}

-- 6 is never given where the memory has at most FFFFFF hex bytes, as in a sheet: a length above that lies outside,
-- and 9 comes first.
abbrev pub Never6 : Type 0
Never6 =
    (memory : ℕ) → memory ≤ 0xFFFFFF → (rules : Rules) (words : List ℕ)
    → EachFault (λ n. n ≡ 6 → ⊥) (checked rules memory words)

-- each word has 32 bits
abbrev pub Words : List ℕ → Type 0
Words ws = (i : ℕ) → get_or ws i 0 < 2 ^ 32

-- By the rules of a sheet 14 is never given: half of 32 bits fits 32 bits.
abbrev pub Never14 : Type 0
Never14 = (words : List ℕ) → Words words → (memory : ℕ) → EachFault (λ n. n ≡ 14 → ⊥) (checked Sheet memory words)

-- For the buyer: outside a sheet the cycles, at the core rate, last at least the nanoseconds asked for, and one cycle
-- less would not, unless there is none.
abbrev pub DelaysLast : Type 0
DelaysLast =
    (core_hz ns : ℕ) → let n = cycles (Transaction core_hz) ns in
    (ns * core_hz ≤ n * 1_000_000_000) × ((n ≡ 0 → ⊥) → (n - 1) * 1_000_000_000 < ns * core_hz)

-- the numbers of a fault
abbrev pub OfFault : ℕ → Type 0
OfFault n = (n ≡ 6) ⊎ (n ≡ 8) ⊎ (n ≡ 9) ⊎ (n ≡ 14)

-- a fault has no other
abbrev pub FaultNumbers : Type 0
FaultNumbers = (rules : Rules) (memory : ℕ) (words : List ℕ) → EachFault OfFault (checked rules memory words)

-- each record on the chain is such
abbrev pub Each : (List ℕ → Type 0) → List (List ℕ) → Type 0
Each P [] = Unit {0}
Each P (r ∷ rs) = P r × Each P rs

-- no kind above the highest is on the chain
abbrev pub KindsKnown : Type 0
KindsKnown =
    (rules : Rules) (memory : ℕ) (words : List ℕ)
    → Each (λ r. known (highest rules) (field r 0) ≡ true) (chain_of (checked rules memory words))

-- Words state a record exactly if they have a known kind and no field out of range.
abbrev pub StatesKnown : Type 0
StatesKnown = (r : List ℕ) → is_some (record_of r) ≡ (known 9 (field r 0) && not (out_of_range r))

-- The windows of the record that words state are those of the table of kinds.
abbrev pub StatesWindows : Type 0
StatesWindows =
    (r : List ℕ) → IfSome (record_of r) (λ s. windows_of s ≡ extents_of r)

-- two records with the same values in these fields
abbrev pub Same : List ℕ → List ℕ → List ℕ → Type 0
Same [] r s = Unit {0}
Same (k ∷ ks) r s = (field r k ≡ field s k) × Same ks r s

-- two records that differ at most in fields that their kind does not use
pub record Alike (r s : List ℕ) : Type 0 where
  pub kind : field r 0 ≡ field s 0
  pub next : next_of r ≡ next_of s
  pub used : Same (kind_of (field r 0)).used r s

-- Unused fields are not looked at.
abbrev pub UnusedFields : Type 0
UnusedFields =
    (r s : List ℕ) → Alike r s → (rules : Rules) (memory count own : ℕ)
    → record_fault rules memory count own r ≡ record_fault rules memory count own s

-- What the laws ask for can be had: a memory as small as a sheet's, the longest delay as words of 32 bits, one cycle at
-- a core rate, and two quad writes with other values in f3 and f4.
pub record HypothesesMet : Type 0 where
  pub small : 65516 ≤ 0xFFFFFF
  pub longest : Words (5 ∷ 4294967295 ∷ 0 ∷ 0 ∷ 0 ∷ 0 ∷ 0 ∷ 0 ∷ [])
  pub one : cycles (Transaction 1) 1 ≡ 1
  pub alike : Alike (9 ∷ 0 ∷ 1 ∷ 4294967295 ∷ 4294967295 ∷ 1 ∷ 1 ∷ 0 ∷ []) (9 ∷ 0 ∷ 1 ∷ 0 ∷ 0 ∷ 1 ∷ 1 ∷ 0 ∷ [])
