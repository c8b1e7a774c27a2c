-- Calls that leave QPI (document 02, request 1).
use Rattle.std.specs.Prelude.{◌≡◌, true, List, [], ◌∷◌, ℕ, replicate}
use Rattle.model.specs.State.{State}
use Rattle.model.specs.Written.{LogLeaves}
use Rattle.config.specs.declared.config.WorkMode.TheVariants.{Standard, Qpi}
use Rattle.bus.specs.Calls.{Call, outcome}
use Rattle.bus.specs.Calls.Call.{write, read, transfer, transfer_in_place, flush, set_work_mode, read_quad, write_quad}

-- a mode other than Qpi, a quad read, a quad write
abbrev pub LeavesQpi : Call → Type 0
LeavesQpi (write bytes) = ⊥
LeavesQpi (read n) = ⊥
LeavesQpi (transfer bytes n) = ⊥
LeavesQpi (transfer_in_place n) = ⊥
LeavesQpi flush = ⊥
LeavesQpi (set_work_mode qpi mode) = mode ≡ Qpi → ⊥
LeavesQpi (read_quad rate command tclqv margin n) = Unit {0}
LeavesQpi (write_quad command bytes) = Unit {0}

-- After such a call that ends in 0, whatever 038 answered, the last word that its log writes to 038 has bit 31 clear.
abbrev pub CallsLeaveQpi : Type 0
CallsLeaveQpi =
    (call : Call) → LeavesQpi call → (limit : ℕ) (answers log m : List ℕ)
    → (outcome call limit answers log m).number ≡ 0
    → LogLeaves 0x038 31 1 0 log (outcome call limit answers log m)

-- what the law asks for can be had: mode Standard, and a quad write of nothing, where 038 answers all ones
abbrev ends : Call → List ℕ → State
ends call answers = outcome call 1 answers (replicate 20 7) []

pub record LeavesMet : Type 0 where
  pub mode : LeavesQpi (set_work_mode true Standard)
  pub mode_ends : (ends (set_work_mode true Standard) (0 ∷ 0xFFFFFFFF ∷ 0 ∷ [])).number ≡ 0
  pub quad_ends : (ends (write_quad [] []) (0 ∷ 0xFFFFFFFF ∷ 0 ∷ 0 ∷ 0xFFFFFFFF ∷ 0 ∷ [])).number ≡ 0
