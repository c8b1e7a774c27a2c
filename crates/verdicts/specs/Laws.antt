-- What a verdict says.
use Rattle.std.specs.Prelude.{◌≡◌, ℕ, true, false, List, [], ◌∷◌, ◌++◌, None, Some, codes}
use Rattle.verdicts.specs.declared.Verdict.{Verdict}
use Rattle.verdicts.specs.Departures.{agreed}
use Rattle.verdicts.specs.Judged.{judged}

-- answers that are judged the same are equal
abbrev pub SameAreEqual : Type 0
SameAreEqual = (case oracle library : List ℕ) → judged case oracle library ≡ Verdict.Same → oracle ≡ library

-- equal answers are judged the same, unless a departure asks for another
abbrev pub EqualAreSame : Type 0
EqualAreSame =
    (case answer : List ℕ) → (agreed case answer answer ≡ Some false → ⊥) → judged case answer answer ≡ Verdict.Same

-- what is excluded a departure is about, and allows
abbrev pub ExcludedIsAgreed : Type 0
ExcludedIsAgreed =
    (case oracle library : List ℕ) → judged case oracle library ≡ Verdict.Excluded
    → agreed case oracle library ≡ Some true

-- a flush
abbrev asked : List ℕ
asked = codes "flush 0 9 0"

-- the Rust's panic at limit 0, and the refusal
abbrev panics : List ℕ
panics = codes "panic 0 0 0 0 limit" ++ 10 ∷ []

abbrev refuses : List ℕ
refuses = codes "end 7 0 0 0 0" ++ 10 ∷ []

-- a flush that is done
abbrev done : List ℕ
done = codes "end 0 1 1 1 0" ++ 10 ∷ []

-- The modes Quad and Qpi, cut behind the word that they write to 038; that word with bit 31 as it was read, and clear.
abbrev into_quad : List ℕ
into_quad = codes "mode 1 6 1 4 2 0 0xc0000000"

abbrev into_qpi : List ℕ
into_qpi = codes "mode 1 6 1 6 2 0 0xc0000000"

abbrev writes : List ℕ → List ℕ
writes word =
    codes "r 0008 00000000" ++ 10 ∷ codes "r 0038 c0000000" ++ 10 ∷ codes "w 0038 " ++ word ++ 10
    ∷ codes "end 10 3 2 1 0" ++ 10 ∷ []

abbrev kept : List ℕ
kept = writes (codes "e0000000")

abbrev cleared : List ℕ
cleared = writes (codes "60000000")

-- a sheet of one record, kind 7, by its mode, which is cut so too
abbrev sheet_into : List ℕ → List ℕ
sheet_into mode =
    codes "sheet 60 60 1 0 0 0 0 0 0 0 1 0 0 0 1 0 0 0 2 0 0 0 7 0 0 0 " ++ mode
    ++ codes " 0 0 0 0 0 0 0 0 0 0 0 0 0 0 0 0 0 0 0 0 0 0 0 0 0 0 0 0 0 0 0 0 0 192"

-- An opening of a PLL at a core rate; an answer without an access, and the refusals by 14 and 23.
abbrev opens : List ℕ → List ℕ → List ℕ
opens pll core_hz =
    codes "open 0 0 1 0 0 0 0 0 0 0 10000000 " ++ pll ++ codes " 24000000 " ++ core_hz ++ codes " 0 1 0 0"

abbrev cut : List ℕ
cut = codes "end 10 0 0 0 0" ++ 10 ∷ codes "rate 0" ++ 10 ∷ []

abbrev fourteen : List ℕ
fourteen = codes "end 14 0 0 0 0" ++ 10 ∷ codes "rate 0" ++ 10 ∷ []

abbrev twenty_three : List ℕ
twenty_three = codes "end 23 0 0 0 0" ++ 10 ∷ codes "rate 0" ++ 10 ∷ []

-- a delay of so many nanoseconds at a core rate, as a transaction; an entry of so many cycles; the refusal by 14
abbrev delays : List ℕ → List ℕ → List ℕ
delays core_hz ns = codes "transaction 1 4 " ++ core_hz ++ codes " 8 5 " ++ ns ++ codes " 0 0 0 0 0 0 0 0 0"

abbrev delayed : List ℕ → List ℕ
delayed cycles = codes "d 0000 " ++ cycles ++ 10 ∷ codes "end 0 1 0 0 0" ++ 10 ∷ []

abbrev at_once : List ℕ
at_once = delayed (codes "00000000")

abbrev too_long : List ℕ
too_long = codes "end 14 0 0 0 0" ++ 10 ∷ []

-- A write of one byte, cut behind its first delay; and that with cycles for no delay record.
abbrev one_byte : List ℕ
one_byte = codes "transaction 1 6 1 8 1 0 1 0 0 0 0 0 1 1 0 1 0"

abbrev begun : List ℕ → List ℕ
begun cycles =
    codes "r 0018 00000000" ++ 10 ∷ codes "w 0018 80008000" ++ 10 ∷ codes "d 0000 " ++ cycles ++ 10
    ∷ codes "end 10 3 1 0 0" ++ 10 ∷ []

-- What these laws ask for can be had: no departure is about a flush that the Rust answers; each row excludes a case,
-- and nothing but what it says.
pub record HypothesesMet : Type 0 where
  pub none : agreed asked done done ≡ None
  pub same : judged asked done done ≡ Verdict.Same
  pub refused : judged asked panics refuses ≡ Verdict.Excluded
  pub leaves : judged into_quad kept cleared ≡ Verdict.Excluded
  pub stays : judged into_quad kept kept ≡ Verdict.Different
  pub qpi_stays : judged into_qpi kept kept ≡ Verdict.Same
  pub qpi_leaves : judged into_qpi kept cleared ≡ Verdict.Different
  pub sheet_leaves : judged (sheet_into (codes "4")) kept cleared ≡ Verdict.Excluded
  pub sheet_stays : judged (sheet_into (codes "6")) kept kept ≡ Verdict.Same
  pub no_core : judged (opens (codes "1200000000") (codes "0")) cut fourteen ≡ Verdict.Excluded
  pub no_core_cut : judged (opens (codes "1200000000") (codes "0")) cut cut ≡ Verdict.Different
  pub no_core_first : judged (opens (codes "0") (codes "0")) cut fourteen ≡ Verdict.Excluded
  pub no_pll : judged (opens (codes "0") (codes "1")) cut twenty_three ≡ Verdict.Excluded
  pub no_pll_cut : judged (opens (codes "0") (codes "1")) cut cut ≡ Verdict.Different
  pub least_pll : judged (opens (codes "1") (codes "1")) cut cut ≡ Verdict.Same
  pub most_pll : judged (opens (codes "3200000031") (codes "1")) cut cut ≡ Verdict.Same
  pub above_pll : judged (opens (codes "3200000032") (codes "1")) cut twenty_three ≡ Verdict.Excluded
  pub above_pll_cut : judged (opens (codes "3200000032") (codes "1")) cut cut ≡ Verdict.Different
  pub lasts : judged (delays (codes "1000000001") (codes "1")) at_once (delayed (codes "00000002")) ≡ Verdict.Excluded
  pub halved : judged (delays (codes "1000000001") (codes "1")) at_once at_once ≡ Verdict.Different
  pub as_halved : judged (delays (codes "1000000000") (codes "0")) at_once at_once ≡ Verdict.Same
  pub longest : judged (delays (codes "0xffffffff") (codes "1000000000")) (delayed (codes "1dcd6500"))
      (delayed (codes "ffffffff")) ≡ Verdict.Excluded
  pub longer : judged (delays (codes "0xffffffff") (codes "1000000001")) (delayed (codes "1dcd6500")) too_long
      ≡ Verdict.Excluded
  pub phase_stays : judged one_byte (begun (codes "0000000a")) (begun (codes "0000000a")) ≡ Verdict.Same
  pub phase_moves : judged one_byte (begun (codes "0000000a")) (begun (codes "00000000")) ≡ Verdict.Different
