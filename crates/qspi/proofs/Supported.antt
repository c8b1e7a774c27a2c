-- A phase never ends unsupported.
use mathlib.Core.Bool.{Bool}
use mathlib.Core.List.{List, [], ◌∷◌, map}
use Prim.Native.Nat.{ℕ, zero, suc}
use Rattle.model.specs.Wait.{Cause}
use Rattle.model.specs.Wait.Cause.{space, received, empty, start}
use Rattle.model.specs.Steps.{Steps}
use Rattle.model.specs.Supported.{Supported}
use Rattle.model.proofs.Supported.{then_supported, change_supported, wait_supported}
use Rattle.qspi.specs.Phases.{Move, reset_fifos, program_transfer, start_transfer, begin_transfer, moved, paced, gots, tx_phase, rx_phase}
use Rattle.qspi.specs.Phases.Move.{sent, got}

moved_supported : (x : Move) (s : Steps) → Supported s → Supported (moved x s)
unfolding moved
moved_supported (sent b) s h = h
moved_supported (got i) s h = h

paced_supported : (c : Cause) (n : ℕ) (xs : List Move) → Supported (paced c n xs)
unfolding paced
paced_supported c n [] = tt
paced_supported c zero (x ∷ xs) = (λ count. moved_supported x _ (paced_supported c _ xs), tt)
paced_supported c (suc n) (x ∷ xs) = moved_supported x (paced c n xs) (paced_supported c n xs)

reset_supported : Supported reset_fifos
unfolding reset_fifos
reset_supported = then_supported _ _ (change_supported _ _) tt

begin_supported : (total tx single dummy : ℕ) → Supported (begin_transfer total tx single dummy)
unfolding program_transfer start_transfer begin_transfer
begin_supported total tx single dummy =
    then_supported _ _ (then_supported _ _ (change_supported _ _) (change_supported _ _)) (then_supported _ _ (change_supported _ _) (change_supported _ _))

pub tx_supported : (single : Bool) (bytes : List ℕ) → Supported (tx_phase single bytes)
unfolding tx_phase
tx_supported single [] = tt
tx_supported single (b ∷ bs) =
    then_supported _ _ reset_supported
    (then_supported _ _ (begin_supported _ _ _ _)
    (then_supported _ _ (paced_supported space 0 (map sent (b ∷ bs))) (then_supported _ _ (wait_supported empty) (wait_supported start))))

pub rx_supported : (at n : ℕ) → Supported (rx_phase at n)
unfolding rx_phase
rx_supported at zero = tt
rx_supported at (suc n) =
    then_supported _ _ reset_supported
    (then_supported _ _ (begin_supported _ _ _ _) (then_supported _ _ (paced_supported received 0 (gots at (suc n))) (wait_supported start)))
