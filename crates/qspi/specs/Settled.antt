-- Settled instances of the phases: portions, and that the bounds on polls are reached.
use Rattle.std.specs.Prelude.{◌≡◌, true, false, List, [], ◌∷◌, ◌++◌, ℕ, ◌+◌, ◌*◌, replicate}
use Rattle.model.specs.Wait.{ready}
use Rattle.model.specs.Wait.Cause.{space, received}
use Rattle.model.specs.Event.Act.{send}
use Rattle.model.specs.Event.Event.{did, got, polled}
use Rattle.model.specs.Tally.{tally_of}
use Rattle.model.specs.Steps.{Steps}
use Rattle.model.specs.Run.{run}
use Rattle.qspi.specs.Phases.{tx_phase, rx_phase}
use Rattle.qspi.specs.Portions.{sending, getting}

-- the polls of a phase at limit 2, whose set-up reads zeros
unfoldable pub polls_of : Steps → List ℕ → ℕ
polls_of s answers = (tally_of (run s 2 false 20 (replicate 5 0 ++ answers) (0 ∷ [])).trace).polls

pub record Settled : Type 0 where
  -- three bytes: a portion of two, then what is left where more could go
  pub sent :
      (run (sending (7 ∷ 8 ∷ 9 ∷ [])) 1 false 9 (0x3e0000 ∷ 0x3e0000 ∷ []) []).trace
      ≡ polled space 0 0x3e0000 ∷ did (send 7) ∷ did (send 8) ∷ polled space 0 0x3e0000 ∷ did (send 9) ∷ []
  pub got :
      (run (getting 0 3) 1 false 9 (2 ∷ 7 ∷ 8 ∷ 255 ∷ 9 ∷ []) (0 ∷ 0 ∷ 0 ∷ [])).trace
      ≡ polled received 0 2 ∷ got 0 7 ∷ got 1 8 ∷ polled received 0 255 ∷ got 2 9 ∷ []
  pub ready : (ready space 0x3e0000 ≡ true) × (ready received 2 ≡ true)
  -- one byte, and one unready poll in each wait
  pub write_polls :
      polls_of (tx_phase true (7 ∷ [])) (0x400000 ∷ 0 ∷ 0x10000 ∷ 0 ∷ 0x80000000 ∷ 0 ∷ []) ≡ 2 * (1 + 2)
  pub read_polls : polls_of (rx_phase 0 1) (0 ∷ 1 ∷ 7 ∷ 0x80000000 ∷ 0 ∷ []) ≡ 2 * (1 + 1)
