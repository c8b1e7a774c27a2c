-- The records of a chain one after the other, and the bound on polls of each, from the bounds of the phases.
use mathlib.Core.Path.{◌≡◌, sym, ap, ◌∙◌}
use mathlib.Core.Bool.{Bool, true, false}
use mathlib.Core.List.{List, [], ◌∷◌, ◌++◌}
use Prim.Native.Nat.{ℕ, zero, suc, ◌+◌, ◌-◌, ◌*◌, ◌/◌, ◌≤◌, min}
use native.Mathlib.Omega.{arith}
use lib.ListN.{length, take, drop, length-take, length-append, length-replicate}
use Rattle.std.specs.Prelude.{Option, Some, None}
use Rattle.model.specs.Wait.{Cause}
use Rattle.model.specs.Wait.Cause.{space, received, empty, start}
use Rattle.model.specs.Steps.{Steps}
use Rattle.model.specs.State.{State, begun, advance}
use Rattle.model.specs.Polls.{by_cause, only, sum, Bounded}
use Rattle.model.proofs.Advance.{advance_then, ended}
use Rattle.model.proofs.Called.{called_runs}
use Rattle.model.proofs.More.{every_advance_extends}
use Rattle.model.proofs.Polls.{every_advance_adds, more_bounded, then_bounded, finally_bounded, look_bounded}
use Rattle.model.proofs.Polls.{wait_bounded, change_bounded, act_bounded}
use Rattle.config.specs.Config.{work_mode_of}
use Rattle.config.specs.declared.config.WorkMode.{WorkMode}
use Rattle.config.specs.declared.config.WorkMode.TheVariants.{Standard, ThreeWire, Dual, DualIO, Quad, QuadIO, Qpi}
use Rattle.qspi.specs.Phases.{tx_phase, rx_phase}
use Rattle.qspi.specs.Bounds.{write_waits, read_waits, further_entries}
use Rattle.qspi.proofs.Bounds.{phases_bounded}
use Rattle.mode.specs.Mode.{lines, qpi_mode, mode_changes, work_mode_steps}
use Rattle.transfer.specs.Transfer.{transfer_steps, part_steps, parts, in_place_steps}
use Rattle.windows.specs.Windows.{framed, quad_mode, standard_mode, quad_start, quad_steps, window, write_window}
use Rattle.windows.specs.Windows.{transfer_windows, read_quad_windows, write_quad_windows}
use Rattle.records.specs.Check.{field}
use Rattle.chain.specs.declared.request.Settings.{Settings}
use Rattle.chain.specs.Chain.{mode_steps, record_steps, chain_steps}
use Rattle.chain.specs.Transaction.{Request, outcome}
use Rattle.chain.specs.Polls.{reached, ReachesOutcome, ChainsFollow, FirstRecords, ChainPolls}

pub reaches_outcome : ReachesOutcome
unfolding outcome reached
reaches_outcome c limit answers log m z = called_runs _ limit answers log m z

pub chains_follow : ChainsFollow
unfolding chain_steps
chains_follow settings [] ss limit answers st =
    ap (advance (chain_steps settings ss) limit answers) (sym (ended limit answers st))
chains_follow settings (r ∷ rs) ss limit answers st =
    advance_then _ _ limit answers st ∙ chains_follow settings rs ss limit answers _
    ∙ ap (advance (chain_steps settings ss) limit answers) (sym (advance_then _ _ limit answers st))

pub first_records : FirstRecords
unfolding reached
first_records c limit answers log m before behind z e =
    let whole = chains_follow c.settings before behind limit answers (begun log m) in
    rw (reaches_outcome c limit answers log m z, e, whole)
    (every_advance_extends (chain_steps c.settings behind) limit answers (reached c limit answers log m before))

-- one record more
pub one_more : (settings : Settings) (limit : ℕ) (answers : List ℕ) (before : List (List ℕ)) (r : List ℕ) (st : State)
    → advance (chain_steps settings (before ++ (r ∷ []))) limit answers st
    ≡ advance (record_steps settings r) limit answers (advance (chain_steps settings before) limit answers st)
unfolding chain_steps
one_more settings limit answers before r st =
    chains_follow settings before (r ∷ []) limit answers st ∙ advance_then _ _ limit answers _ ∙ ended limit answers _

-- fewer bytes need no more waits
fewer : (k n : ℕ) → k ≤ n → (c : Cause) → write_waits k c ≤ write_waits n c
fewer k n q space = q
fewer k n q received = omega arith
fewer k n q empty = omega arith
fewer k n q start = omega arith

-- at most n bytes sent
pub sent : (n : ℕ) (single : Bool) (bytes : List ℕ) → length bytes ≤ n
    → Bounded (write_waits n) (further_entries n) (tx_phase single bytes)
sent n single bytes q = more_bounded (fewer _ n q) (omega arith) (phases_bounded.write single bytes)

pub window_length : (from n : ℕ) (m : List ℕ) → length (window from n m) ≤ n
unfolding window
window_length from n m = rw (length-take n (drop from m)) (omega arith)

-- so many parts
part_waits : ℕ → ℕ → Cause → ℕ
part_waits count n = by_cause n n count (2 * count)

one_part : (count p n : ℕ) → p ≤ n → (c : Cause)
    → write_waits p c + read_waits p c + part_waits count (n - p) c ≤ part_waits (suc count) n c
unfolding part_waits
one_part count p n q space = omega arith
one_part count p n q received = omega arith
one_part count p n q empty = omega arith
one_part count p n q start = omega arith

parts_bounded : (count at n : ℕ) → Bounded (part_waits count n) (22 * count + 2 * n) (parts count at n)
unfolding parts part_steps transfer_steps
parts_bounded zero at n = record { weighs = λ w l. tt }
parts_bounded (suc count) at n =
    let p = min 256 n in
    more_bounded (one_part count p n (omega arith)) (omega arith)
    (then_bounded
    (look_bounded
    (λ m. then_bounded (sent p true (take p (drop at m)) (rw (length-take p (drop at m)) (omega arith)))
    (phases_bounded.read at p)))
    (parts_bounded count (at + p) (n - p)))

-- a mode: the wait for START, and two changes at most
lines_bounded : (quad dual three : ℕ) → Bounded (λ c. 0) 4 (lines quad dual three)
unfolding lines
lines_bounded quad dual three = then_bounded (change_bounded _ _) (change_bounded _ _)

changes_bounded : (qpi : Bool) (mode : WorkMode) → Bounded (λ c. 0) 4 (mode_changes qpi mode)
unfolding mode_changes qpi_mode
changes_bounded qpi Standard = lines_bounded _ _ _
changes_bounded qpi ThreeWire = lines_bounded _ _ _
changes_bounded qpi Dual = lines_bounded _ _ _
changes_bounded qpi DualIO = lines_bounded _ _ _
changes_bounded qpi Quad = lines_bounded _ _ _
changes_bounded qpi QuadIO = lines_bounded _ _ _
changes_bounded true Qpi = more_bounded (λ c. omega arith) (omega arith) (change_bounded _ _)
changes_bounded false Qpi = record { weighs = λ w l. tt }

with_start : (c : Cause) → only start 1 c + 0 ≤ only start 1 c
with_start space = omega arith
with_start received = omega arith
with_start empty = omega arith
with_start start = omega arith

pub mode_bounded : (qpi : Bool) (mode : WorkMode) → Bounded (only start 1) 4 (work_mode_steps qpi mode)
unfolding work_mode_steps
mode_bounded qpi mode =
    more_bounded with_start (omega arith) (then_bounded (wait_bounded start) (changes_bounded qpi mode))

-- the steps of a quad call: its command, two modes and its data's phase
quad_waits : ℕ → (Cause → ℕ) → Cause → ℕ
quad_waits n waits c = write_waits n c + only start 1 c + (waits c + only start 1 c)

quad_bounded : (n : ℕ) {waits : Cause → ℕ} {rest : ℕ} (command : List ℕ) (phase : Steps) → length command ≤ n
    → Bounded waits rest phase
    → Bounded (quad_waits n waits) (further_entries n + 4 + (rest + 4)) (quad_steps command phase)
unfolding quad_steps quad_start quad_mode standard_mode quad_waits
quad_bounded n command phase q h =
    then_bounded (then_bounded (sent n true command q) (mode_bounded false Quad))
    (finally_bounded h (mode_bounded false Standard))

pub framed_length : (command : List ℕ) (dummies : ℕ) → length (framed command dummies) ≤ 16
unfolding framed
framed_length command dummies =
    simp (length-append, length-replicate, length-take) (omega arith)

-- the steps of a record, by its kind
module _ (settings : Settings) (r : List ℕ) where
  abbrev f : ℕ → ℕ
  f = field r

  write_bounded : f 0 ≡ 1 → Bounded (write_waits (f 2)) (further_entries (f 2)) (record_steps settings r)
  unfolding record_steps write_window
  write_bounded k = rw k (look_bounded (λ m. sent (f 2) true _ (window_length (f 1) (f 2) m)))

  read_bounded : f 0 ≡ 2 → Bounded (read_waits (f 2)) (further_entries (f 2)) (record_steps settings r)
  unfolding record_steps
  read_bounded k = rw k (phases_bounded.read (f 1) (f 2))

  transfer_bounded : f 0 ≡ 3
      → Bounded (λ c. write_waits (f 4) c + read_waits (f 2) c) (further_entries (f 4) + further_entries (f 2))
      (record_steps settings r)
  unfolding record_steps transfer_windows transfer_steps
  transfer_bounded k =
      rw k (look_bounded
      (λ m. then_bounded (sent (f 4) true _ (window_length (f 3) (f 4) m)) (phases_bounded.read (f 1) (f 2))))

  in_place_bounded : f 0 ≡ 4
      → Bounded (part_waits ((f 2 + 255) / 256) (f 2)) (22 * ((f 2 + 255) / 256) + 2 * f 2) (record_steps settings r)
  unfolding record_steps in_place_steps
  in_place_bounded k = rw k (parts_bounded ((f 2 + 255) / 256) (f 1) (f 2))

  delay_bounded : f 0 ≡ 5 → Bounded (λ c. 0) 1 (record_steps settings r)
  unfolding record_steps
  delay_bounded k = rw k (act_bounded _)

  flush_bounded : f 0 ≡ 6 → Bounded (only start 1) 0 (record_steps settings r)
  unfolding record_steps
  flush_bounded k = rw k (wait_bounded start)

  set_mode_bounded : f 0 ≡ 7 → Bounded (only start 1) 4 (record_steps settings r)
  unfolding record_steps
  set_mode_bounded k = rw k (by (work_mode_of (f 1)))
    where
      by : (o : Option WorkMode) → Bounded (only start 1) 4 (mode_steps settings.qpi o)
      by (Some mode) = mode_bounded settings.qpi mode
      by None = record { weighs = λ w l. tt }

  quad_read_bounded : f 0 ≡ 8
      → Bounded (quad_waits 16 (read_waits (f 6))) (27 + 4 + (further_entries (f 6) + 4)) (record_steps settings r)
  unfolding record_steps read_quad_windows
  quad_read_bounded k =
      rw k (look_bounded
      (λ m. quad_bounded 16 _ (rx_phase (f 5) (f 6)) (framed_length _ _) (phases_bounded.read (f 5) (f 6))))

  quad_write_bounded : f 0 ≡ 9
      → Bounded (quad_waits (f 2) (write_waits (f 6))) (further_entries (f 2) + 4 + (further_entries (f 6) + 4))
      (record_steps settings r)
  unfolding record_steps write_quad_windows
  quad_write_bounded k =
      rw k
      (look_bounded
      (λ m. quad_bounded (f 2) _ _ (window_length (f 1) (f 2) m) (sent (f 6) false _ (window_length (f 5) (f 6) m))))

-- what a record of a chain adds to the polls, from the bounds of its steps
record_adds : (c : Request) (limit : ℕ) (answers log m : List ℕ) (before : List (List ℕ)) (r : List ℕ)
    {waits : Cause → ℕ} {rest : ℕ}
    → Bounded waits rest (record_steps c.settings r)
    → (reached c limit answers log m (before ++ (r ∷ []))).tally.polls
    ≤ (reached c limit answers log m before).tally.polls + limit * sum waits
unfolding reached
record_adds c limit answers log m before r h =
    rw (one_more c.settings limit answers before r (begun log m)) ((every_advance_adds _ _ _ h limit answers _).polls)

pub chain_polls : ChainPolls
unfolding part_waits quad_waits
chain_polls =
    record {
      write =
          λ c l ws log m before r k. omega (arith, record_adds c l ws log m before r (write_bounded c.settings r k));
      read =
          λ c l ws log m before r k. omega (arith, record_adds c l ws log m before r (read_bounded c.settings r k));
      transfer =
          λ c l ws log m before r k.
          omega (arith, record_adds c l ws log m before r (transfer_bounded c.settings r k));
      in_place =
          λ c l ws log m before r k.
          omega (arith, record_adds c l ws log m before r (in_place_bounded c.settings r k));
      delay =
          λ c l ws log m before r k. omega (arith, record_adds c l ws log m before r (delay_bounded c.settings r k));
      flush =
          λ c l ws log m before r k. omega (arith, record_adds c l ws log m before r (flush_bounded c.settings r k));
      mode =
          λ c l ws log m before r k.
          omega (arith, record_adds c l ws log m before r (set_mode_bounded c.settings r k));
      quad_read =
          λ c l ws log m before r k.
          omega (arith, record_adds c l ws log m before r (quad_read_bounded c.settings r k));
      quad_write =
          λ c l ws log m before r k.
          omega (arith, record_adds c l ws log m before r (quad_write_bounded c.settings r k));
    }
