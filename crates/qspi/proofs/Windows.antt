-- The phases on a part of the memory are the phases on the whole, at the part's place.
use mathlib.Core.Bool.{Bool}
use mathlib.Core.List.{List, [], ◌∷◌, ◌++◌, map}
use Prim.Native.Nat.{ℕ, zero, suc, pred, ◌+◌, ◌≤◌}
use native.Mathlib.Omega.{arith}
use native.Mathlib.Nat.{add-zero}
use lib.ListN.{length, take, drop}
use Rattle.model.specs.Wait.{Cause}
use Rattle.model.specs.Wait.Cause.{space, received, empty, start}
use Rattle.model.specs.Steps.{change, wait_for}
use Rattle.model.specs.Steps.End.{done}
use Rattle.model.specs.Frame.{Inside}
use Rattle.model.specs.Frame.Inside.{ends, acts, asks, waits}
use Rattle.model.proofs.Frame.{then_inside}
use Rattle.access.specs.declared.progress.Progress.{Progress}
use Rattle.qspi.specs.Phases.{moved, paced, reset_fifos, program_transfer, start_transfer, begin_transfer, tx_phase, rx_phase}
use Rattle.qspi.specs.Phases.Move.{sent}
use Rattle.access.specs.Does.{Runs}
use Rattle.qspi.proofs.Paced.{gots_inside}
use Rattle.access.proofs.Sequence.{part_length, runs_part}

module _ {at n : ℕ} where
  pub change_inside : (place : ℕ) (f : ℕ → ℕ) → Inside at n (change place f) (change place f)
  unfolding change
  change_inside place f = asks _ (λ word. acts _ (ends done))

  pub wait_inside : (c : Cause) → Inside at n (wait_for c) (wait_for c)
  unfolding wait_for
  wait_inside c = waits c (λ count. ends done) (ends done)

  reset_inside : Inside at n reset_fifos reset_fifos
  unfolding reset_fifos
  reset_inside = then_inside (change_inside _ _) (acts _ (ends done))

  begin_inside : (total tx single dummy : ℕ) → Inside at n (begin_transfer total tx single dummy) (begin_transfer total tx single dummy)
  unfolding program_transfer start_transfer begin_transfer
  begin_inside total tx single dummy =
      then_inside (then_inside (change_inside _ _) (change_inside _ _)) (then_inside (change_inside _ _) (change_inside _ _))

  -- bytes sent touch no memory
  sends_inside : (c : Cause) (count : ℕ) (bytes : List ℕ) → Inside at n (paced c count (map sent bytes)) (paced c count (map sent bytes))
  unfolding paced moved
  sends_inside c count [] = ends done
  sends_inside c zero (b ∷ bs) = waits c (λ count'. acts _ (sends_inside c (pred count') bs)) (ends done)
  sends_inside c (suc count) (b ∷ bs) = acts _ (sends_inside c count bs)

  pub tx_inside : (single : Bool) (bytes : List ℕ) → Inside at n (tx_phase single bytes) (tx_phase single bytes)
  unfolding tx_phase
  tx_inside single [] = ends done
  tx_inside single (b ∷ bs) =
      then_inside reset_inside
      (then_inside (begin_inside _ _ _ _) (then_inside (sends_inside space 0 (b ∷ bs)) (then_inside (wait_inside empty) (wait_inside start))))

  pub rx_inside : (i k : ℕ) → i + k ≤ n → Inside at n (rx_phase (at + i) k) (rx_phase i k)
  unfolding rx_phase
  rx_inside i zero h = ends done
  rx_inside i (suc k) h =
      then_inside reset_inside (then_inside (begin_inside _ _ _ _) (then_inside (gots_inside received 0 at n i (suc k) h) (wait_inside start)))

-- What a read received into a part, from index `at` on, it received into the whole.
pub rx_window : (at len : ℕ) {limit : ℕ} {answers : List ℕ} {p r : Progress} {log log' m part' : List ℕ} → at + len ≤ length m
    → Runs (rx_phase 0 (length (take len (drop at m)))) limit answers p log (take len (drop at m)) r log' part'
    → Runs (rx_phase at len) limit answers p log m r log' (take at m ++ (part' ++ drop len (drop at m)))
rx_window at len {m = m} h d =
    runs_part (rx_phase at len) (rx_phase 0 len) at len h (rw add-zero at (rx_inside {at = at} {n = len} 0 len (omega arith))) (rw (part_length at len m h) at d)
