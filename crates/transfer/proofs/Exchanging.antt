-- The loop of a transfer in place.
use mathlib.Core.Path.{◌≡◌}
use mathlib.Core.List.{List, ◌++◌}
use Prim.Native.Nat.{ℕ, ◌+◌, ◌-◌, ◌≤◌, ◌<◌, min}
use lib.ListN.{length, take, drop}
use Rattle.std.specs.Prelude.{Result, Ok, Err}
use Rattle.std.specs.Int.NonZero.{non_zero_u32_get}
use Rattle.config.specs.declared.error.QspiError.{QspiError}
use Rattle.access.specs.declared.block.RegisterBlock.{RegisterBlock}
use Rattle.access.specs.Makes.{Lent}
use Rattle.access.specs.Goes.{GoesOn}
use Rattle.access.specs.Makes.{progress_of}
use Rattle.config.proofs.Laws.{not_done}
use Rattle.access.proofs.Makes.{lent_then, lent_same}
use Rattle.access.proofs.Through.{Through, through_starts, through_stops, through_done}
use Rattle.transfer.specs.Transfer.{transfer_steps, part_steps, in_place_steps}
use Rattle.transfer.proofs.Parts.{part_runs, in_place_ends, exchanging_more}

-- the bytes sent are those of the part
pub part_goes : {p r : RegisterBlock} {part part' bytes : List ℕ} {e : Result (Unit {0}) QspiError} → bytes ≡ part
    → GoesOn (transfer_steps bytes 0 (length part)) p part r part' e
    → GoesOn (part_steps 0 (length part)) p part r part' e
part_goes h d = record { lent = d.lent; runs = part_runs h d.runs }

-- what is left after i bytes of the memory that was `buf` and is `buf'` now
pub record Exchanging (buf : List ℕ) (p r : RegisterBlock) (buf' : List ℕ) (i : ℕ) : Type 0 where
  pub lent : Lent p r
  pub through : Through in_place_steps buf (non_zero_u32_get p.limit) p.answers.words.now (progress_of (Ok tt) p)
      p.log.now (progress_of (Ok tt) r) r.log.now buf' i

pub exchanging_begins : (buf : List ℕ) (p : RegisterBlock) → Exchanging buf p p buf 0
exchanging_begins buf p =
    record { lent = lent_same _; through = through_starts in_place_steps buf _ _ _ _ p.sound }

module _ {buf buf' : List ℕ} {p r s : RegisterBlock} {i len : ℕ} (on : Exchanging buf p r buf' i) {part' : List ℕ}
    (h : i < length buf) (e : len ≡ min 256 (length buf - i))
    (k : length part' ≡ length (take len (drop i buf'))) where
  exchanged : {a : Result (Unit {0}) QspiError}
      → GoesOn (part_steps 0 (length (take len (drop i buf')))) r (take len (drop i buf')) s part' a
      → Through in_place_steps buf (non_zero_u32_get p.limit) p.answers.words.now (progress_of (Ok tt) p) p.log.now
      (progress_of a s) s.log.now
      (take i buf' ++ (part' ++ drop len (drop i buf'))) (i + len)
  exchanged d = exchanging_more on.through len h e k (rw (on.lent.answers, on.lent.limit) at d.runs)

  pub exchanging_on : GoesOn (part_steps 0 (length (take len (drop i buf')))) r (take len (drop i buf')) s part' (Ok tt)
      → Exchanging buf p s (take i buf' ++ (part' ++ drop len (drop i buf'))) (i + len)
  exchanging_on d = record { lent = lent_then on.lent d.lent; through = exchanged d }

  pub exchanging_ends : {a : QspiError} → GoesOn (part_steps 0 (length (take len (drop i buf')))) r
      (take len (drop i buf')) s part' (Err a)
      → GoesOn (in_place_steps 0 (length buf)) p buf s (take i buf' ++ (part' ++ drop len (drop i buf'))) (Err a)
  exchanging_ends {a} d = record { lent = lent_then on.lent d.lent; runs = through_stops (exchanged d) (not_done a) }

pub all_exchanged : {buf buf' : List ℕ} {p r : RegisterBlock} {i : ℕ} → Exchanging buf p r buf' i → length buf ≤ i
    → GoesOn (in_place_steps 0 (length buf)) p buf r buf' (Ok tt)
all_exchanged on h = record { lent = on.lent; runs = through_done on.through in_place_ends h }
