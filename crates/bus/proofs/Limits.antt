-- Demand 3 for each call, from the laws over trees.
use mathlib.Core.Path.{◌≡◌}
use mathlib.Core.Bool.{Bool, true, false, cond}
use mathlib.Core.List.{List, [], ◌∷◌}
use Prim.Native.Nat.{ℕ}
use native.Mathlib.Omega.{arith}
use lib.Dec.{ltb}
use Rattle.model.proofs.Refusable.{limited_steady, another_limit_called}
use Rattle.model.proofs.Polls.{every_call_adds}
use Rattle.qspi.proofs.Bounds.{phases_bounded}
use Rattle.bus.specs.Calls.{lengths_of, steps_of, too_long, refusal, outcome}
use Rattle.bus.specs.Calls.Call.{write, read}
use Rattle.bus.specs.Limits.{refusable, CallsSteady, CallsAgain, WriteCallPolls, ReadCallPolls}

-- no length is refused by 2
length_never : (lengths : List ℕ) → too_long lengths ≡ 2 → ⊥
unfolding too_long
length_never [] h = omega (arith, h)
length_never (n ∷ ns) h = by (ltb 0xFFFFFF n) (length_never ns) h
  where
    by : (b : Bool) → (too_long ns ≡ 2 → ⊥) → cond b 6 (too_long ns) ≡ 2 → ⊥
    by true k h = omega (arith, h)
    by false k h = k h

pub calls_steady : CallsSteady
calls_steady call = limited_steady (too_long (lengths_of call)) (steps_of call) (length_never (lengths_of call))

pub calls_again : CallsAgain
unfolding outcome refusal
calls_again call = another_limit_called (refusable call) (calls_steady call)

-- What a call's steps add bounds the call, refused or not.
pub write_call_polls : WriteCallPolls
unfolding outcome steps_of
write_call_polls bytes limit answers log m =
    omega (
      arith,
      (every_call_adds _ _ _ (phases_bounded.write true bytes)
          (refusal limit (lengths_of (write bytes))) limit answers log m).polls,
    )

pub read_call_polls : ReadCallPolls
unfolding outcome steps_of
read_call_polls n limit answers log m =
    omega (
      arith,
      (every_call_adds _ _ _ (phases_bounded.read 0 n) (refusal limit (lengths_of (read n))) limit answers log m).polls,
    )
