-- Leaving QPI by a quad call (document 02, request 1).
use Rattle.std.specs.Prelude.{◌≡◌, false, List, [], ◌∷◌, ℕ, Some}
use Rattle.model.specs.Steps.{Steps}
use Rattle.model.specs.Run.{Outcome, run}
use Rattle.qspi.specs.Phases.{rx_phase}
use Rattle.mode.specs.Leaves.{OutOfQpi, last_038}
use Rattle.quad.specs.Quad.{quad_steps}

-- After a quad read or write that ends in 0 the last word written to 038 has bit 31 clear, whatever its data phase is.
abbrev pub QuadCallsLeaveQpi : Type 0
QuadCallsLeaveQpi = (command : List ℕ) (phase : Steps) → OutOfQpi (quad_steps command phase)

-- a quad read of nothing, its command empty too, where 038 answers all ones
abbrev pub over_ones : Outcome
over_ones = run (quad_steps [] (rx_phase 0 0)) 1 false 10 (0 ∷ 0xFFFFFFFF ∷ 0 ∷ 0 ∷ 0xFFFFFFFF ∷ 0 ∷ []) []

-- what the law asks for can be had
pub record LeavesMet : Type 0 where
  pub ends : over_ones.number ≡ 0
  pub word : last_038 over_ones ≡ Some 0x4FFFFFFF
