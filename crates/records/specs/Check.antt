-- The check of a chain of records of eight words (document 01, "Chain and sheet"): record by record 8, 14 by request
-- 2, 9, 6.
use Rattle.std.specs.Prelude.{ℕ, suc, ◌+◌, ◌-◌, ◌*◌, ◌/◌, ◌%◌, Bool, not, cond, ◌&&◌, ◌||◌, leb, ltb, eqb}
use Rattle.std.specs.Prelude.{List, [], ◌∷◌, map, length, get_or, take, drop, Result, Ok, Err}
use Rattle.std.specs.List.{list_any}
use Rattle.std.specs.Simd.{first_chunks}
use Rattle.config.specs.declared.error.QspiError.{QspiError}
use Rattle.config.specs.declared.error.QspiError.TheVariants.{Chain, Cycles, Window, Length}
use Rattle.config.specs.Error.{error_number}
use Rattle.records.specs.declared.rules.Rules.{Rules}
use Rattle.records.specs.Rules.{highest, cycles}
use Rattle.records.specs.Kinds.{kind_of}
use Rattle.records.specs.declared.extent.Extent.{Extent}
use Rattle.records.specs.declared.kinds.Window as kinds
use Rattle.records.specs.declared.kinds.Cap.{Cap}
use Rattle.records.specs.declared.Fault.{Fault}

-- document 01's *record* i, counted from 1: eight words, kind, f1 to f6 and next
unfoldable pub record_at : List ℕ → ℕ → List ℕ
record_at ws i = take 8 (drop (8 * (i - 1)) ws)

-- field k of a record
abbrev pub field : List ℕ → ℕ → ℕ
field r k = get_or r k 0

abbrev pub next_of : List ℕ → ℕ
next_of r = field r 7

-- 8: a kind from 1 to the highest allowed, each field in its range, and a next that is 0 or a later record's number
abbrev pub known : ℕ → ℕ → Bool
known most k = leb 1 k && (leb k most && leb k 9)

unfoldable pub out_of_range : List ℕ → Bool
out_of_range r = list_any (λ (c : Cap). ltb c.most (field r c.field)) (kind_of (field r 0)).caps

abbrev pub next_fits : ℕ → ℕ → ℕ → Bool
next_fits own count next = eqb next 0 || (ltb own next && leb next count)

-- 14 (request 2): a delay of more cycles than 32 bits hold
abbrev pub too_many : Rules → ℕ → ℕ → Bool
too_many rules k ns = eqb k 5 && ltb 0xFFFFFFFF (cycles rules ns)

-- a window's values in a record
abbrev pub extent : ℕ → ℕ → Bool → Extent
extent s n p = record { start = s; size = n; phase = p }

abbrev pub extent_in : List ℕ → kinds.Window → Extent
extent_in r w = extent (field r w.start) (field r w.size) w.phase

-- those of all its windows
abbrev pub extents_of : List ℕ → List Extent
extents_of r = map (extent_in r) (kind_of (field r 0)).windows

-- 9: one of the windows ends past the memory; 6: one of the lengths of a phase is above FFFFFF hex
abbrev pub outside_of : ℕ → Extent → Bool
outside_of memory e = ltb memory (e.start + e.size)

abbrev pub too_long : Extent → Bool
too_long e = e.phase && ltb 0xFFFFFF e.size

unfoldable pub extents_fault : ℕ → List Extent → Result (Unit {0}) QspiError
extents_fault memory es =
    cond (list_any (outside_of memory) es) (Err Window) (cond (list_any too_long es) (Err Length) (Ok tt))

unfoldable pub windows_fault : ℕ → List ℕ → Result (Unit {0}) QspiError
windows_fault memory r = extents_fault memory (extents_of r)

-- the first fault of a record, if it has one
unfoldable pub record_fault : Rules → ℕ → ℕ → ℕ → List ℕ → Result (Unit {0}) QspiError
record_fault rules memory count own r =
    cond (not (known (highest rules) (field r 0)) || out_of_range r) (Err Chain)
    (cond (not (next_fits own count (next_of r))) (Err Chain)
    (cond (too_many rules (field r 0) (field r 1)) (Err Cycles) (windows_fault memory r)))

-- the first fault with its record (0: the slice itself), or document 01's *chain*: its records, in order
abbrev pub Checked : Type 0
Checked = Result (List (List ℕ)) Fault

abbrev pub fault : QspiError → ℕ → Fault
fault e i = record { error = e; «record» = i }

-- what the code answers, and its number: 0, or that of the fault
abbrev pub verdict : Checked → Result (Unit {0}) Fault
verdict (Err f) = Err f
verdict (Ok rs) = Ok tt

abbrev pub number_of : Result (Unit {0}) Fault → ℕ
number_of (Ok done) = 0
number_of (Err f) = error_number f.error

abbrev pub ahead : List ℕ → Checked → Checked
ahead r (Err f) = Err f
ahead r (Ok rs) = Ok (r ∷ rs)

-- a record on the chain: its fault, or what is found behind it
abbrev pub step : Result (Unit {0}) QspiError → ℕ → List ℕ → Checked → Checked
step (Ok done) own r rest = ahead r rest
step (Err e) own r rest = Err (fault e own)

-- n records of eight words
unfoldable pub records_in : ℕ → List ℕ → List (List ℕ)
records_in = first_chunks 8

-- Through the records from number `own` on: those before record `due` are not looked at. A next of 0 ends the chain;
-- any other is larger than its own number.
unfoldable pub along : Rules → ℕ → ℕ → List (List ℕ) → ℕ → ℕ → Checked
along rules memory count [] own due = Ok []
along rules memory count (r ∷ rs) own due =
    let later = along rules memory count rs (suc own) in
    let next = next_of r in
    let behind = cond (eqb next 0) (Ok []) (later next) in
    cond (eqb own due) (step (record_fault rules memory count own r) own r behind) (later due)

-- 8 for a slice that is no multiple of eight; else the chain, which starts at record 1
unfoldable pub checked : Rules → ℕ → List ℕ → Checked
checked rules memory ws =
    let count = length ws / 8 in
    cond (eqb (length ws % 8) 0) (along rules memory count (records_in count ws) 1 1) (Err (fault Chain 0))

-- the records that are run
abbrev pub chain_of : Checked → List (List ℕ)
chain_of (Err f) = []
chain_of (Ok rs) = rs
