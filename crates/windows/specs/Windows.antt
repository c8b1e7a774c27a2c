-- Calls on windows of one lent memory (document 01, "Chain and sheet"): a part is sent as its bytes stand when the call begins.
use Rattle.std.specs.Prelude.{true, false, List, ℕ, take, drop}
use Rattle.model.specs.Steps.{Steps}
use Rattle.model.specs.Steps.Steps.{look}
use Rattle.clock.specs.Dummies.{dummies}
use Rattle.qspi.specs.Phases.{tx_phase, rx_phase}
use Rattle.transfer.specs.Transfer.{transfer_steps}
-- passed on, so that a chain of quad records can be computed
unfoldable pub use Rattle.quad.specs.Quad.{framed, quad_mode, standard_mode, quad_start, quad_steps}

-- the part of the memory that a start and a length name
unfoldable pub window : ℕ → ℕ → List ℕ → List ℕ
window start n m = take n (drop start m)

unfoldable pub write_window : ℕ → ℕ → Steps
write_window start n = look (λ m. tx_phase true (window start n m))

-- read to the first window, write the second
unfoldable pub transfer_windows : ℕ → ℕ → ℕ → ℕ → Steps
transfer_windows start n from k = look (λ m. transfer_steps (window from k m) start n)

-- the rate, the command's window, tclqv, margin, the data's window
unfoldable pub read_quad_windows : ℕ → ℕ → ℕ → ℕ → ℕ → ℕ → ℕ → Steps
read_quad_windows rate start n tclqv margin at k = look (λ m. quad_steps (framed (window start n m) (dummies rate tclqv margin)) (rx_phase at k))

-- the command's window, the data's window
unfoldable pub write_quad_windows : ℕ → ℕ → ℕ → ℕ → Steps
write_quad_windows start n from k = look (λ m. quad_steps (window start n m) (tx_phase false (window from k m)))
