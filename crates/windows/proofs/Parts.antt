-- Steps on a window, as steps on the whole memory.
use mathlib.Core.Path.{◌≡◌, sym, ◌∙◌}
use mathlib.Core.Bool.{Bool, true, false}
use mathlib.Core.List.{List, ◌++◌}
use Prim.Native.Nat.{ℕ, ◌+◌, ◌^◌, ◌≤◌, ◌<◌}
use native.Mathlib.Omega.{arith}
use native.Mathlib.Nat.{add-zero}
use lib.ListN.{length, take, drop}
use Rattle.model.specs.Steps.{Steps}
use Rattle.model.specs.Steps.Steps.{look}
use Rattle.model.specs.Frame.{Inside}
use Rattle.model.specs.Frame.Inside.{ends}
use Rattle.model.proofs.Frame.{then_inside, finally_inside}
use Rattle.model.proofs.Next.{look_next}
use Rattle.access.specs.declared.progress.Progress.{Progress}
use Rattle.access.specs.Of.{state_of}
use Rattle.access.specs.Does.{Runs}
use Rattle.access.proofs.Sequence.{part_length, runs_part}
use Rattle.qspi.specs.Phases.{rx_phase}
use Rattle.std.specs.Prelude.{Result}
use Rattle.config.specs.declared.error.QspiError.{QspiError}
use Rattle.access.specs.declared.block.RegisterBlock.{RegisterBlock}
use Rattle.access.specs.Goes.{GoesOn}
use Rattle.qspi.proofs.Windows.{rx_window, change_inside, wait_inside, tx_inside, rx_inside}
use Rattle.config.specs.declared.config.WorkMode.{WorkMode}
use Rattle.config.specs.declared.config.WorkMode.TheVariants.{Standard, ThreeWire, Dual, DualIO, Quad, QuadIO, Qpi}
use Rattle.mode.specs.Mode.{lines, qpi_mode, mode_changes, work_mode_steps}
use Rattle.transfer.specs.Transfer.{in_place_steps}
use Rattle.transfer.proofs.Parts.{in_place_inside}
use Rattle.quad.specs.Quad.{quad_mode, standard_mode, quad_start, quad_steps}
use Rattle.windows.specs.Windows.{window}

-- a window that is short is a part that is short
pub short : (start n : ℕ) (m : List ℕ) {part : List ℕ} → part ≡ window start n m → (start + n ≤ length m) × (n < 2 ^ 24) → length part < 2 ^ 24
unfolding window
short start n m e h = rw (e, part_length start n m h.0) h.1

-- what was done with the memory as it stood
pub looks_runs : (k : List ℕ → Steps) {limit : ℕ} {answers : List ℕ} {p r : Progress} {log log' m m' : List ℕ}
    → Runs (k m) limit answers p log m r log' m' → Runs (look k) limit answers p log m r log' m'
looks_runs k {limit} {answers} {p} {log = log} {m = m} d =
    record { sound = d.sound; state = d.state ∙ sym (look_next k limit answers (state_of p log m)) }

pub looked : (k : List ℕ → Steps) {limit : ℕ} {answers : List ℕ} {p r : Progress} {log log' m m' : List ℕ}
    → Runs (look k) limit answers p log m r log' m' → Runs (k m) limit answers p log m r log' m'
looked k {limit} {answers} {p} {log = log} {m = m} d =
    record { sound = d.sound; state = d.state ∙ look_next k limit answers (state_of p log m) }

-- a mode touches no memory
module _ {at n : ℕ} where
  lines_inside : (quad dual three : ℕ) → Inside at n (lines quad dual three) (lines quad dual three)
  unfolding lines
  lines_inside quad dual three = then_inside (change_inside _ _) (change_inside _ _)

  changes_inside : (qpi : Bool) (mode : WorkMode) → Inside at n (mode_changes qpi mode) (mode_changes qpi mode)
  unfolding mode_changes qpi_mode
  changes_inside qpi Standard = lines_inside _ _ _
  changes_inside qpi ThreeWire = lines_inside _ _ _
  changes_inside qpi Dual = lines_inside _ _ _
  changes_inside qpi DualIO = lines_inside _ _ _
  changes_inside qpi Quad = lines_inside _ _ _
  changes_inside qpi QuadIO = lines_inside _ _ _
  changes_inside true Qpi = change_inside _ _
  changes_inside false Qpi = ends _

  mode_inside : (qpi : Bool) (mode : WorkMode) → Inside at n (work_mode_steps qpi mode) (work_mode_steps qpi mode)
  unfolding work_mode_steps
  mode_inside qpi mode = then_inside (wait_inside _) (changes_inside qpi mode)

quad_inside : (at n : ℕ) (bytes : List ℕ) → Inside at n (quad_steps bytes (rx_phase at n)) (quad_steps bytes (rx_phase 0 n))
unfolding quad_mode standard_mode quad_start quad_steps
quad_inside at n bytes =
    then_inside (then_inside (tx_inside _ bytes) (mode_inside false Quad))
    (finally_inside (rw add-zero at (rx_inside {at = at} {n = n} 0 n (omega arith))) (mode_inside false Standard))

-- The same for a window that was lent: what was done on it was done on the whole.
module _ (at len : ℕ) {limit : ℕ} {answers : List ℕ} {p r : Progress} {log log' m part' : List ℕ} (h : at + len ≤ length m) where
  pub in_place_window : Runs (in_place_steps 0 (length (take len (drop at m)))) limit answers p log (take len (drop at m)) r log' part'
      → Runs (in_place_steps at len) limit answers p log m r log' (take at m ++ (part' ++ drop len (drop at m)))
  in_place_window d = runs_part (in_place_steps at len) (in_place_steps 0 len) at len h (in_place_inside at len) (rw (part_length at len m h) at d)

  pub quad_window : (bytes : List ℕ)
      → Runs (quad_steps bytes (rx_phase 0 (length (take len (drop at m))))) limit answers p log (take len (drop at m)) r log' part'
      → Runs (quad_steps bytes (rx_phase at len)) limit answers p log m r log' (take at m ++ (part' ++ drop len (drop at m)))
  quad_window bytes d = runs_part (quad_steps bytes (rx_phase at len)) (quad_steps bytes (rx_phase 0 len)) at len h (quad_inside at len bytes) (rw (part_length at len m h) at d)

-- The same for what a register block has done.
module _ {b r : RegisterBlock} {m m' : List ℕ} {e : Result (Unit {0}) QspiError} where
  pub looks_goes : (k : List ℕ → Steps) → GoesOn (k m) b m r m' e → GoesOn (look k) b m r m' e
  looks_goes k d = record { lent = d.lent; runs = looks_runs k d.runs }

  pub goes_looked : (k : List ℕ → Steps) → GoesOn (look k) b m r m' e → GoesOn (k m) b m r m' e
  goes_looked k d = record { lent = d.lent; runs = looked k d.runs }

module _ (at len : ℕ) {b r : RegisterBlock} {m part' : List ℕ} {e : Result (Unit {0}) QspiError}
    (h : at + len ≤ length m) where
  pub rx_goes : GoesOn (rx_phase 0 (length (take len (drop at m)))) b (take len (drop at m)) r part' e
      → GoesOn (rx_phase at len) b m r (take at m ++ (part' ++ drop len (drop at m))) e
  rx_goes d = record { lent = d.lent; runs = rx_window at len h d.runs }

  pub in_place_goes : GoesOn (in_place_steps 0 (length (take len (drop at m)))) b (take len (drop at m)) r part' e
      → GoesOn (in_place_steps at len) b m r (take at m ++ (part' ++ drop len (drop at m))) e
  in_place_goes d = record { lent = d.lent; runs = in_place_window at len h d.runs }

  pub quad_goes : (bytes : List ℕ) → GoesOn (quad_steps bytes (rx_phase 0 (length (take len (drop at m))))) b
      (take len (drop at m)) r part' e
      → GoesOn (quad_steps bytes (rx_phase at len)) b m r (take at m ++ (part' ++ drop len (drop at m))) e
  quad_goes bytes d = record { lent = d.lent; runs = quad_window at len h bytes d.runs }
