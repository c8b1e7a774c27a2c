-- The loops that move bytes by portions, each after a wait.
use mathlib.Core.Path.{◌≡◌, refl}
use mathlib.Core.List.{List, ◌++◌, map}
use Prim.Native.Nat.{ℕ, ◌+◌, ◌-◌, ◌≤◌, ◌<◌, min}
use lib.ListN.{length, take, drop}
use Rattle.std.specs.Prelude.{Result, Ok, Err}
use Rattle.std.specs.Int.NonZero.{non_zero_u32_get}
use Rattle.model.specs.Wait.Cause.{space, received}
use Rattle.config.specs.declared.error.QspiError.{QspiError}
use Rattle.access.specs.declared.block.RegisterBlock.{RegisterBlock}
use Rattle.access.specs.declared.block.RegisterBlock.{RegisterBlock}
use Rattle.access.specs.Makes.{Lent, Makes, MakesOn}
use Rattle.access.specs.Goes.{Goes, GoesOn}
use Rattle.access.specs.Makes.{progress_of}
use Rattle.config.proofs.Laws.{not_done}
use Rattle.access.proofs.Makes.{lent_then, lent_same}
use Rattle.access.proofs.Through.{Through, through_starts, through_stops, through_done}
use Rattle.waits.specs.Does.{Waited}
use Rattle.qspi.specs.Phases.{moved_all, paced, gots}
use Rattle.qspi.specs.Phases.Move.{sent}
use Rattle.qspi.proofs.Bytes.{Writing, writing_starts, writing_stops, writing_more, writing_cut, writing_done, reading, reading_ends, reading_more, reading_stops}

-- writing, after i bytes
pub record WritingOn (bytes : List ℕ) (p r : RegisterBlock) (i : ℕ) : Type 0 where
  pub lent : Lent p r
  pub writes : Writing bytes (non_zero_u32_get p.limit) p.answers.words.now (progress_of (Ok tt) p) p.log.now
      (progress_of (Ok tt) r) r.log.now i

pub writing_begins : (bytes : List ℕ) (p : RegisterBlock) → WritingOn bytes p p 0
writing_begins bytes p =
    record { lent = lent_same _; writes = writing_starts bytes _ _ _ _ p.sound }

-- after i bytes a wait for space, from the block r to the block s
module _ {bytes : List ℕ} {p r s : RegisterBlock} {i : ℕ} (on : WritingOn bytes p r i) (h : i < length bytes) where
  pub unpaced : {e : QspiError} → Waited space r s (Err e) → Goes (paced space 0 (map sent bytes)) p s (Err e)
  unpaced {e} w =
      record {
        lent = lent_then on.lent w.lent;
        does = writing_stops on.writes h (rw (on.lent.answers, on.lent.limit) at w.waits) (not_done e);
      }

  -- the portion that it has space for, sent to the block b
  module _ {count len : ℕ} (w : Waited space r s (Ok count)) (e : len ≡ min count (length bytes - i))
      {b : RegisterBlock} where
    lent_sent : {a : Result (Unit {0}) QspiError} → Makes (moved_all (map sent (take len (drop i bytes)))) s b a
        → Lent p b
    lent_sent m = lent_then on.lent (lent_then w.lent m.lent)

    written : {a : Result (Unit {0}) QspiError} → Makes (moved_all (map sent (take len (drop i bytes)))) s b a
        → Writing bytes (non_zero_u32_get p.limit) p.answers.words.now (progress_of (Ok tt) p) p.log.now
        (progress_of a b) b.log.now (i + len)
    written m =
        rw m.tally
        (writing_more on.writes h (rw (on.lent.answers, on.lent.limit) at w.waits) refl e
        (rw (w.lent.answers, on.lent.answers) at (m.works s.tally s.sound)))

    pub writing_on : Makes (moved_all (map sent (take len (drop i bytes)))) s b (Ok tt)
        → WritingOn bytes p b (i + len)
    writing_on m = record { lent = lent_sent m; writes = written m }

    pub unwritten : {a : QspiError} → Makes (moved_all (map sent (take len (drop i bytes)))) s b (Err a)
        → Goes (paced space 0 (map sent bytes)) p b (Err a)
    unwritten {a} m = record { lent = lent_sent m; does = writing_cut (written m) (not_done a) }

pub all_written : {bytes : List ℕ} {p r : RegisterBlock} {i : ℕ} → WritingOn bytes p r i → length bytes ≤ i
    → Goes (paced space 0 (map sent bytes)) p r (Ok tt)
all_written on h = record { lent = on.lent; does = writing_done on.writes h }

-- reading, after i bytes, into the memory that was `buf` and is `buf'` now
pub record ReadingOn (buf : List ℕ) (p r : RegisterBlock) (buf' : List ℕ) (i : ℕ) : Type 0 where
  pub lent : Lent p r
  pub reads : Through reading buf (non_zero_u32_get p.limit) p.answers.words.now (progress_of (Ok tt) p) p.log.now
      (progress_of (Ok tt) r) r.log.now buf' i

pub reading_begins : (buf : List ℕ) (p : RegisterBlock) → ReadingOn buf p p buf 0
reading_begins buf p =
    record { lent = lent_same _; reads = through_starts reading buf _ _ _ _ p.sound }

-- after i bytes a wait for received ones, from the block r to the block s
module _ {buf buf' : List ℕ} {p r s : RegisterBlock} {i : ℕ} (on : ReadingOn buf p r buf' i) (h : i < length buf) where
  pub unreceived : {e : QspiError} → Waited received r s (Err e)
      → GoesOn (paced received 0 (gots 0 (length buf))) p buf s buf' (Err e)
  unreceived {e} w =
      record {
        lent = lent_then on.lent w.lent;
        runs = reading_stops on.reads h (rw (on.lent.answers, on.lent.limit) at w.waits) (not_done e);
      }

  -- the portion that was received, got at the block b into the part, which is `part'` now
  module _ {count len : ℕ} (w : Waited received r s (Ok count)) (e : len ≡ min count (length buf - i))
      {b : RegisterBlock} {part' : List ℕ} (k : length part' ≡ length (take len (drop i buf'))) where
    lent_on : {a : Result (Unit {0}) QspiError}
        → MakesOn (moved_all (gots 0 (length (take len (drop i buf'))))) s (take len (drop i buf')) b part' a
        → Lent p b
    lent_on m = lent_then on.lent (lent_then w.lent m.lent)

    received_part : {a : Result (Unit {0}) QspiError}
        → MakesOn (moved_all (gots 0 (length (take len (drop i buf'))))) s (take len (drop i buf')) b part' a
        → Through reading buf (non_zero_u32_get p.limit) p.answers.words.now (progress_of (Ok tt) p) p.log.now
        (progress_of a b) b.log.now
        (take i buf' ++ (part' ++ drop len (drop i buf'))) (i + len)
    received_part m =
        rw m.tally
        (reading_more on.reads h (rw (on.lent.answers, on.lent.limit) at w.waits) refl e k
        (rw (w.lent.answers, on.lent.answers) at (m.gets s.tally s.sound)))

    pub reading_on : MakesOn (moved_all (gots 0 (length (take len (drop i buf'))))) s (take len (drop i buf')) b part'
        (Ok tt)
        → ReadingOn buf p b (take i buf' ++ (part' ++ drop len (drop i buf'))) (i + len)
    reading_on m = record { lent = lent_on m; reads = received_part m }

    pub ungot : {a : QspiError} → MakesOn (moved_all (gots 0 (length (take len (drop i buf'))))) s
        (take len (drop i buf')) b part' (Err a)
        → GoesOn (paced received 0 (gots 0 (length buf))) p buf b (take i buf' ++ (part' ++ drop len (drop i buf')))
        (Err a)
    ungot {a} m = record { lent = lent_on m; runs = through_stops (received_part m) (not_done a) }

pub all_read : {buf buf' : List ℕ} {p r : RegisterBlock} {i : ℕ} → ReadingOn buf p r buf' i → length buf ≤ i
    → GoesOn (paced received 0 (gots 0 (length buf))) p buf r buf' (Ok tt)
all_read on h = record { lent = on.lent; runs = through_done on.reads reading_ends h }
