-- The bounds of the phases: a wait for each byte at most, and those after the bytes; the entries before the bytes, and
-- the bytes.
use mathlib.Core.Path.{◌≡◌}
use mathlib.Core.Bool.{Bool}
use mathlib.Core.List.{List, [], ◌∷◌, map}
use Prim.Native.Nat.{ℕ, zero, suc, ◌+◌, ◌*◌, ◌≤◌}
use native.Mathlib.Omega.{arith}
use native.Mathlib.Nat.{mul-suc}
use lib.ListN.{length, length-map}
use Rattle.model.specs.Wait.{Cause}
use Rattle.model.specs.Wait.Cause.{space, received, empty, start}
use Rattle.model.specs.Steps.{Steps}
use Rattle.model.specs.Polls.{Weight, AtMost, only, Bounded}
use Rattle.model.proofs.Polls.{every_run_within, every_advance_adds, more, more_bounded, then_bounded, only_bounded}
use Rattle.model.proofs.Polls.{wait_bounded, change_bounded, act_bounded, end_bounded}
use Rattle.qspi.specs.Phases.{Move, moved, paced, gots, reset_fifos, program_transfer, start_transfer, begin_transfer}
use Rattle.qspi.specs.Phases.{tx_phase, rx_phase}
use Rattle.qspi.specs.Phases.Move.{sent, got}
use Rattle.qspi.specs.Bounds.{write_waits, read_waits, further_entries, PhasesBounded, WritePolls, ReadPolls}
use Rattle.qspi.specs.Bounds.{WriteAdds, ReadAdds}
use Rattle.qspi.proofs.Paced.{length_gots}

-- a wait and an entry for each move at most
module _ (w : Weight) (limit : ℕ) where
  one_move : (n : ℕ) (x : Move) (s : Steps) → AtMost w limit n s → AtMost w limit (w.other + n) (moved x s)
  unfolding moved
  one_move n (sent b) s h = (n, omega arith, h)
  one_move n (got i) s h = (n, omega arith, h)

  moves : (c : Cause) (n : ℕ) (xs : List Move)
      → AtMost w limit (limit * w.poll c * length xs + w.other * length xs) (paced c n xs)
  unfolding paced
  moves c n [] = tt
  moves c zero (x ∷ xs) =
      let k = length xs in
      let a = limit * w.poll c * k + w.other * k in (
        w.other + a,
        omega (arith, mul-suc (limit * w.poll c) k, mul-suc w.other k),
        λ count. one_move a x _
            (moves c _ xs),
        tt,
      )
  moves c (suc n) (x ∷ xs) =
      let k = length xs in
      let a = limit * w.poll c * k + w.other * k in
      more w limit (w.other + a) (limit * w.poll c * suc k + w.other * suc k) (moved x (paced c n xs))
      (omega (arith, mul-suc (limit * w.poll c) k, mul-suc w.other k)) (one_move a x (paced c n xs) (moves c n xs))

portions : (c : Cause) (xs : List Move) → Bounded (only c (length xs)) (length xs) (paced c 0 xs)
portions c xs = only_bounded c (length xs) (length xs) (paced c 0 xs) (λ w l. moves w l c 0 xs)

-- the steps before the bytes: five changes and a delay
reset : Bounded (λ c. 0) 3 reset_fifos
unfolding reset_fifos
reset = then_bounded (change_bounded _ _) (act_bounded _)

begun : (total tx single dummy : ℕ) → Bounded (λ c. 0) 8 (begin_transfer total tx single dummy)
unfolding program_transfer start_transfer begin_transfer
begun total tx single dummy =
    then_bounded (then_bounded (change_bounded _ _) (change_bounded _ _))
    (then_bounded (change_bounded _ _) (change_bounded _ _))

-- the waits of the parts together
tx_waits : (n k : ℕ) → k ≡ n → (c : Cause)
    → 0 + (0 + (only space k c + (only empty 1 c + only start 1 c))) ≤ write_waits n c
tx_waits n k e space = omega arith
tx_waits n k e received = omega arith
tx_waits n k e empty = omega arith
tx_waits n k e start = omega arith

rx_waits : (n k : ℕ) → k ≡ n → (c : Cause) → 0 + (0 + (only received k c + only start 1 c)) ≤ read_waits n c
rx_waits n k e space = omega arith
rx_waits n k e received = omega arith
rx_waits n k e empty = omega arith
rx_waits n k e start = omega arith

tx_bounded : (single : Bool) (bytes : List ℕ)
    → Bounded (write_waits (length bytes)) (further_entries (length bytes)) (tx_phase single bytes)
unfolding tx_phase
tx_bounded single [] = end_bounded
tx_bounded single (b ∷ bs) =
    let e = length-map (b ∷ bs) sent in
    more_bounded (tx_waits _ _ e) (omega (arith, e))
    (then_bounded reset
    (then_bounded (begun _ _ _ _)
    (then_bounded (portions space (map sent (b ∷ bs))) (then_bounded (wait_bounded empty) (wait_bounded start)))))

rx_bounded : (at n : ℕ) → Bounded (read_waits n) (further_entries n) (rx_phase at n)
unfolding rx_phase
rx_bounded at zero = end_bounded
rx_bounded at (suc n) =
    let e = length_gots at (suc n) in
    more_bounded (rx_waits _ _ e) (omega (arith, e))
    (then_bounded reset
    (then_bounded (begun _ _ _ _) (then_bounded (portions received (gots at (suc n))) (wait_bounded start))))

pub phases_bounded : PhasesBounded
phases_bounded = record { write = tx_bounded; read = rx_bounded }

pub write_polls : WritePolls
write_polls single bytes limit late r ws m =
    omega (arith, (every_run_within _ _ _ (tx_bounded single bytes) limit late r ws m).polls)

pub read_polls : ReadPolls
read_polls at n limit late r ws m =
    omega (arith, (every_run_within _ _ _ (rx_bounded at n) limit late r ws m).polls)

pub write_adds : WriteAdds
write_adds single bytes limit ws st =
    omega (arith, (every_advance_adds _ _ _ (tx_bounded single bytes) limit ws st).polls)

pub read_adds : ReadAdds
read_adds at n limit ws st =
    omega (arith, (every_advance_adds _ _ _ (rx_bounded at n) limit ws st).polls)
