-- Steps that never end unsupported give no 2.
use mathlib.Core.Path.{◌≡◌, refl}
use mathlib.Core.Bool.{Bool, true, false, cond}
use mathlib.Core.List.{List, [], ◌++◌}
use Prim.Native.Nat.{ℕ, suc}
use native.Mathlib.Omega.{arith}
use Rattle.model.specs.Wait.{Cause}
use Rattle.model.specs.Event.{Event, answer_of, receive}
use Rattle.model.specs.Event.Event.{heard, got}
use Rattle.model.specs.Steps.{Steps, then, change, wait_for}
use Rattle.model.specs.Steps.End.{done, unsupported}
use Rattle.model.specs.Steps.Steps.{end, act, ask, get, look, wait}
use Rattle.model.specs.Run.{Outcome, stop, after, run}
use Rattle.model.proofs.Every.{on_entered, on_answered, on_poll}
use Rattle.model.specs.Supported.{Supported, SupportedNever2}

-- an outcome whose number is not 2, and that 10, 11 and one more entry keep it so
abbrev Not2 : ℕ → List ℕ → List ℕ → Outcome → Type 0
Not2 r ws m o = o.number ≡ 2 → ⊥

ten : (ws m : List ℕ) → Not2 0 ws m (stop 10 0 ws m)
ten ws m z = omega (arith, z)

eleven : (r : ℕ) (m : List ℕ) → Not2 (suc r) [] m (stop 11 (suc r) [] m)
eleven r m z = omega (arith, z)

past : (e : Event) (r : ℕ) (ws m : List ℕ) (o : Outcome) → Not2 r ws (receive m e) o → Not2 (suc r) (answer_of e ++ ws) m (after e o)
past e r ws m o h = h

ends_not : (late : Bool) → ◌≡◌ {A = ℕ} (cond late 1 0) 2 → ⊥
ends_not true z = omega (arith, z)
ends_not false z = omega (arith, z)

pub supported_never_2 : SupportedNever2
unfolding run answer_of receive
supported_never_2 (end done) h l b r ws m = ends_not b
supported_never_2 (end unsupported) h l b r ws m = absurd h
supported_never_2 (act a s) h l b r ws m = on_entered Not2 ten eleven past a r ws m _ (λ r'. supported_never_2 s h l b r' ws m)
supported_never_2 (ask q k) h l b r ws m =
    on_answered Not2 ten eleven past (heard q) r ws m _ (λ x. refl) (λ x r' ws'. supported_never_2 (k _) (h _) l b r' ws' m)
supported_never_2 (get i s) h l b r ws m =
    on_answered Not2 ten eleven past (got i) r ws m _ (λ x. refl) (λ x r' ws'. supported_never_2 s h l b r' ws' _)
supported_never_2 (look k) h l b r ws m = supported_never_2 (k m) (h m) l b r ws m
supported_never_2 (wait c k u) h l b r ws m =
    on_poll Not2 ten eleven past c m _ _ (λ x r' ws'. supported_never_2 (k x) (h.0 x) l b r' ws' m) (λ r' ws'. supported_never_2 u h.1 l true r' ws' m) l 0 r ws

-- One after the other.
pub then_supported : (s t : Steps) → Supported s → Supported t → Supported (then s t)
unfolding then
then_supported (end done) t h g = g
then_supported (end unsupported) t h g = h
then_supported (act a s) t h g = then_supported s t h g
then_supported (ask q k) t h g = λ x. then_supported (k x) t (h x) g
then_supported (get i s) t h g = then_supported s t h g
then_supported (look k) t h g = λ m. then_supported (k m) t (h m) g
then_supported (wait c k u) t h g = (λ x. then_supported (k x) t (h.0 x) g, h.1)

pub change_supported : (place : ℕ) (f : ℕ → ℕ) → Supported (change place f)
unfolding change
change_supported place f = λ word. tt

pub wait_supported : (c : Cause) → Supported (wait_for c)
unfolding wait_for
wait_supported c = (λ count. tt, tt)
