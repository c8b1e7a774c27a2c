-- The phases as what their parts have done.
use mathlib.Core.Path.{◌≡◌, refl}
use mathlib.Core.Bool.{Bool, cond}
use mathlib.Core.List.{List, [], ◌∷◌, map}
use Prim.Native.Nat.{ℕ}
use native.Mathlib.Omega.{arith}
use lib.ListN.{length}
use Rattle.std.specs.Prelude.{Result, Ok}
use Rattle.model.specs.Wait.Cause.{space, received, empty, start}
use Rattle.model.specs.Steps.{then, change, wait_for}
use Rattle.config.specs.declared.error.QspiError.{QspiError}
use Rattle.access.specs.declared.block.RegisterBlock.{RegisterBlock}
use Rattle.access.specs.Goes.{Goes, GoesOn}
use Rattle.access.proofs.Goes.{nothing_goes, goes_on}
use Rattle.qspi.specs.Phases.{reset_fifos, program_transfer, start_transfer, begin_transfer, paced, gots, tx_phase, rx_phase}
use Rattle.qspi.specs.Phases.Move.{sent}

-- The phases: nothing is done where there is nothing to move.
pub tx_none : (p : RegisterBlock) (single : Bool) (bytes : List ℕ) → length bytes ≡ 0
    → Goes (tx_phase single bytes) p p (Ok tt)
unfolding tx_phase
tx_none p single [] h = nothing_goes p
tx_none p single (b ∷ bs) h = absurd (omega arith)

pub rx_none : (p : RegisterBlock) (buf : List ℕ) → length buf ≡ 0 → GoesOn (rx_phase 0 (length buf)) p buf p buf (Ok tt)
unfolding rx_phase
rx_none p [] h = goes_on (nothing_goes p) []
rx_none p (b ∷ bs) h = absurd (omega arith)

module _ {p r : RegisterBlock} {e : Result (Unit {0}) QspiError} where
  pub tx_some : (single : Bool) (bytes : List ℕ) → (length bytes ≡ 0 → ⊥)
      → Goes (then (then reset_fifos (begin_transfer (length bytes) (length bytes) (cond single (length bytes) 0) 0))
      (then (paced space 0 (map sent bytes)) (then (wait_for empty) (wait_for start)))) p r e
      → Goes (tx_phase single bytes) p r e
  unfolding tx_phase reset_fifos begin_transfer program_transfer start_transfer then change
  tx_some single [] h d = absurd (h refl)
  tx_some single (b ∷ bs) h d = d

  pub rx_some : {buf' : List ℕ} (buf : List ℕ) → (length buf ≡ 0 → ⊥)
      → GoesOn (then (then reset_fifos (begin_transfer (length buf) 0 0 0))
      (then (paced received 0 (gots 0 (length buf))) (wait_for start))) p buf r buf' e
      → GoesOn (rx_phase 0 (length buf)) p buf r buf' e
  unfolding rx_phase reset_fifos begin_transfer program_transfer start_transfer then change
  rx_some [] h d = absurd (h refl)
  rx_some (b ∷ bs) h d = d
