-- What words state, by cases over the kinds, and what that says of their fault.
use Rattle.std.proofs.Common.{◌≡◌, ℕ, zero, suc, ◌+◌, ◌*◌, ◌^◌, ◌<◌, ◌≤◌, Bool, true, false, not, cond, ◌&&◌, ◌||◌}
use Rattle.std.proofs.Common.{ltb, leb, List, [], ◌∷◌, map, get_or, take, drop, Option, Some, None, is_some}
use Rattle.std.proofs.Common.{option_map, IfSome, Result, Ok, Err, refl, ap, ◌∙◌, arith, ◌-◌, length}
use Rattle.std.proofs.Common.{add-one, drop-cons}
use native.Mathlib.Nat.{add_assoc}
use Rattle.std.specs.Simd.{first_chunks}
use Rattle.std.specs.List.{list_any}
use Rattle.std.proofs.lemmas.Bool.{ltb-false, cond_both}
use Rattle.std.proofs.lemmas.Bool.Decides.{nat_tests}
use Rattle.std.proofs.Math.Seq.{drop-drop}
use Rattle.config.specs.Config.{work_mode_of}
use Rattle.config.specs.declared.config.WorkMode.{WorkMode}
use Rattle.config.specs.declared.error.QspiError.{QspiError}
use Rattle.config.specs.declared.error.QspiError.TheVariants.{Window, Length}
use Rattle.records.specs.declared.rules.Rules.{Rules}
use Rattle.records.specs.Rules.{highest}
use Rattle.records.specs.Kinds.{kind_of}
use Rattle.records.specs.declared.kinds.Cap.{Cap}
use Rattle.records.specs.Check.{record_at, field, known, out_of_range, next_fits, next_of, too_many, outside_of}
use Rattle.records.specs.Check.{too_long, extent_in, extents_fault, windows_fault, record_fault}
use Rattle.records.specs.Record.{records_of, record_of, windows_of}
use Rattle.records.specs.Laws.{StatesKnown, StatesWindows}
use Rattle.records.specs.declared.extent.Extent.{Extent}
use Rattle.records.specs.declared.record.Record.{Record}
use Rattle.records.specs.declared.record.Record.TheVariants.{Mode}

-- chunk k of eight words
pub chunk_at : (k n : ℕ) (ws : List ℕ) → k < n → get_or (first_chunks 8 n ws) k [] ≡ take 8 (drop (8 * k) ws)
chunk_at k zero ws h = absurd (omega arith)
chunk_at zero (suc n) ws h = refl
chunk_at (suc k) (suc n) ws h =
    let e : 8 + 8 * k ≡ 8 * suc k = omega arith in
    rw (← e, ← drop-drop) (chunk_at k n (drop 8 ws) (omega arith))

-- the first n elements from b on, one by one
abbrev from : ℕ → ℕ → List ℕ → List ℕ
from zero b l = []
from (suc n) b l = get_or l b 0 ∷ from n (b + 1) l

from_part : (n b : ℕ) (l : List ℕ) → b + n ≤ length l → from n b l ≡ take n (drop b l)
from_part zero b l h = refl
from_part (suc n) b l h =
    rw (add-one b, drop-cons l b 0 (omega arith))
    (ap (λ (t : List ℕ). get_or l b 0 ∷ t) (from_part n (suc b) l (omega arith)))

-- A record's eight words are those at its places.
pub record_words :
    (ws : List ℕ) (i : ℕ)
    → 1 ≤ i
    → 8 * i ≤ length ws
    → let b = 8 * (i - 1) in
    get_or ws b 0
    ∷ get_or ws (b + 1) 0
    ∷ get_or ws (b + 2) 0
    ∷ get_or ws (b + 3) 0
    ∷ get_or ws (b + 4) 0
    ∷ get_or ws (b + 5) 0
    ∷ get_or ws (b + 6) 0
    ∷ get_or ws (b + 7) 0
    ∷ []
    ≡ record_at ws i
unfolding record_at
record_words ws i p h = simp add_assoc at (from_part 8 (8 * (i - 1)) ws (omega arith))

mode_known : (m : ℕ) → is_some (option_map Mode (work_mode_of m)) ≡ not (ltb 6 m || false)
mode_known zero = refl
mode_known (suc zero) = refl
mode_known (suc (suc zero)) = refl
mode_known (suc (suc (suc zero))) = refl
mode_known (suc (suc (suc (suc zero)))) = refl
mode_known (suc (suc (suc (suc (suc zero))))) = refl
mode_known (suc (suc (suc (suc (suc (suc zero)))))) = refl
mode_known (suc (suc (suc (suc (suc (suc (suc m))))))) = grind (arith, nat_tests)

mode_windows : (m : ℕ) → IfSome (option_map Mode (work_mode_of m)) (λ s. windows_of s ≡ [])
mode_windows m = by (work_mode_of m)
  where
    by : (o : Option WorkMode) → IfSome (option_map Mode o) (λ s. windows_of s ≡ [])
    by None = tt
    by (Some mode) = refl

margin : {A : Type 0} (P : A → Type 0) (m : ℕ) (x : A) → P x
    → let o = cond (leb m 255) (Some x) None in (is_some o ≡ not (ltb 255 m || false)) × IfSome o P
margin P m x h = (grind (arith, nat_tests), cond_both (leb m 255) (Some x) None (λ o. IfSome o P) (λ e. h) (λ e. tt))

past_known : (k : ℕ) → 9 < k → false ≡ (known 9 k && true)
past_known k h = grind (arith, nat_tests)

-- the record of the kind k by a record's fields, by the table of kinds
States : List ℕ → ℕ → Type 0
States r k =
    let o = get_or (records_of (field r)) k None in
    (is_some o ≡ (known 9 k && not (list_any (λ (c : Cap). ltb c.most (field r c.field)) (kind_of k).caps)))
    × IfSome o (λ s. windows_of s ≡ map (extent_in r) (kind_of k).windows)

by_kind : (r : List ℕ) (k : ℕ) → States r k
unfolding States
by_kind r zero = (refl, tt)
by_kind r (suc zero) = (refl, refl)
by_kind r (suc (suc zero)) = (refl, refl)
by_kind r (suc (suc (suc zero))) = (refl, refl)
by_kind r (suc (suc (suc (suc zero)))) = (refl, refl)
by_kind r (suc (suc (suc (suc (suc zero))))) = (refl, refl)
by_kind r (suc (suc (suc (suc (suc (suc zero)))))) = (refl, refl)
by_kind r (suc (suc (suc (suc (suc (suc (suc zero))))))) = (mode_known (field r 1), mode_windows (field r 1))
by_kind r (suc (suc (suc (suc (suc (suc (suc (suc zero)))))))) = margin _ (field r 4) _ refl
by_kind r (suc (suc (suc (suc (suc (suc (suc (suc (suc zero))))))))) = (refl, refl)
by_kind r (suc (suc (suc (suc (suc (suc (suc (suc (suc (suc n)))))))))) =
    (past_known (suc (suc (suc (suc (suc (suc (suc (suc (suc (suc n)))))))))) (omega arith), tt)

pub states_known : StatesKnown
unfolding record_of out_of_range States
states_known r = (by_kind r (field r 0)).0

pub states_windows : StatesWindows
unfolding record_of States
states_windows r = (by_kind r (field r 0)).1

pub neither : (a b : Bool) → (a || b) ≡ false → (a ≡ false) × (b ≡ false)
neither true b e = cc
neither false b e = (refl, e)

not-false : (b : Bool) → not b ≡ false → b ≡ true
not-false true h = refl
not-false false h = cc

-- a test that gives no error
no_error : (b : Bool) (e : QspiError) (x : Result (Unit {0}) QspiError) → cond b (Err e) x ≡ Ok tt
    → (b ≡ false) × (x ≡ Ok tt)
no_error true e x h = cc
no_error false e x h = (refl, h)

known_nine : (most k : ℕ) → known most k ≡ true → known 9 k ≡ true
known_nine most k h = grind (arith, nat_tests)

-- A record without a fault: its kind, its fields, its next, its cycles and its windows have passed.
module _ (rules : Rules) (memory count own : ℕ) (r : List ℕ) (e : record_fault rules memory count own r ≡ Ok tt) where
  pub tests_passed :
      (known (highest rules) (field r 0) ≡ true)
      × (out_of_range r ≡ false)
      × (next_fits own count (next_of r) ≡ true)
      × (too_many rules (field r 0) (field r 1) ≡ false)
      × (windows_fault memory r ≡ Ok tt)
  unfolding record_fault
  tests_passed =
      let kind = no_error _ _ _ e in
      let next = no_error _ _ _ kind.1 in
      let cycles = no_error _ _ _ next.1 in
      let n = neither _ _ kind.0 in
      (not-false _ n.0, n.1, not-false _ next.0, cycles.0, cycles.1)

  pub known_kind : known (highest rules) (field r 0) ≡ true
  known_kind = tests_passed.0

  pub fitting_next : next_fits own count (next_of r) ≡ true
  fitting_next = tests_passed.2

  pub fitting_cycles : too_many rules (field r 0) (field r 1) ≡ false
  fitting_cycles = tests_passed.3

  -- It is stated by its words, and so are its windows.
  pub stated : (s : Record) × (record_of r ≡ Some s) × (extents_fault memory (windows_of s) ≡ Ok tt)
  unfolding windows_fault
  stated = by (record_of r) refl
    where
      by : (o : Option Record) → record_of r ≡ o
          → (s : Record) × (record_of r ≡ Some s) × (extents_fault memory (windows_of s) ≡ Ok tt)
      by None f =
          let known : (known 9 (field r 0) && not (out_of_range r)) ≡ true =
          rw (known_nine _ _ known_kind, tests_passed.1) refl in
          let none : false ≡ true = rw f at (states_known r) ∙ known in
          cc
      by (Some s) f = (s, f, ap (extents_fault memory) (rw f at (states_windows r)) ∙ tests_passed.4)

-- Every window lies in a memory, and every length of a phase fits one.
abbrev pub AllIn : ℕ → List Extent → Type 0
AllIn memory [] = Unit {0}
AllIn memory (e ∷ es) = ((e.start + e.size ≤ memory) × (e.phase ≡ true → e.size < 2 ^ 24)) × AllIn memory es

short_phase : (p : Bool) (n : ℕ) → (p && ltb 0xFFFFFF n) ≡ false → p ≡ true → n < 2 ^ 24
short_phase true n e q = omega (arith, ltb-false 0xFFFFFF n e)
short_phase false n e q = cc

in_each : (memory : ℕ) (es : List Extent) → list_any (outside_of memory) es ≡ false → list_any too_long es ≡ false
    → AllIn memory es
in_each memory [] a b = tt
in_each memory (x ∷ es) a b =
    let i = neither (outside_of memory x) (list_any (outside_of memory) es) a in
    let j = neither (too_long x) (list_any too_long es) b in
    ((ltb-false memory (x.start + x.size) i.0, short_phase x.phase x.size j.0), in_each memory es i.1 j.1)

no_fault : (b d : Bool)
    → ◌≡◌ {A = Result (Unit {0}) QspiError} (cond b (Err Window) (cond d (Err Length) (Ok tt))) (Ok tt)
    → (b ≡ false) × (d ≡ false)
no_fault true d e = cc
no_fault false true e = cc
no_fault false false e = (refl, refl)

pub all_in : (memory : ℕ) (es : List Extent) → extents_fault memory es ≡ Ok tt → AllIn memory es
unfolding extents_fault
all_in memory es e = let n = no_fault _ _ e in in_each memory es n.0 n.1

-- The windows of a record without a fault, by its kind.
pub windows_in : (memory : ℕ) (r : List ℕ) (k : ℕ) → field r 0 ≡ k → windows_fault memory r ≡ Ok tt
    → AllIn memory (map (extent_in r) (kind_of k).windows)
unfolding windows_fault
windows_in memory r k e z = rw e at (all_in memory (map (extent_in r) (kind_of (field r 0)).windows) z)
