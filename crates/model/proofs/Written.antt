-- What a run leaves last at a place, from what each path of its steps does.
use mathlib.Core.Path.{◌≡◌, refl}
use mathlib.Core.Bool.{false}
use mathlib.Core.List.{List}
use mathlib.Core.Logic.{inl}
use Prim.Native.Nat.{ℕ, zero, suc}
use native.Mathlib.Omega.{arith}
use lib.ListN.{drop}
use Rattle.std.specs.Prelude.{Option, None}
use Rattle.model.specs.Event.Event.{heard, got}
use Rattle.model.specs.Steps.{Steps, then, finally}
use Rattle.model.specs.Steps.End.{done, unsupported}
use Rattle.model.specs.Steps.Steps.{end, act, ask, get, look, wait}
use Rattle.model.specs.Run.{Outcome, run, entered}
use Rattle.model.specs.State.{begun, room_of, ran, advance}
use Rattle.model.specs.Written.{rewritten, last_written, Left, Leaves, DoneLeaves, LogLeaves, DoneCallLeaves}
use Rattle.model.proofs.Advance.{starts}
use Rattle.model.proofs.Called.{called_holds}
use Rattle.model.proofs.Every.{late_never}
use Rattle.model.proofs.Carries.{Carries, answered_carries, poll_carries}

module _ (place low width value : ℕ) where
  -- where the first outcome is done, the second leaves the value; below they are one
  abbrev Done : Option ℕ → Outcome → Outcome → Type 0
  Done w o o' = o.number ≡ 0 → Left low width value (last_written place w o'.trace)

  carries : (w : Option ℕ) (m : List ℕ) → Carries (Done w) m m
  unfolding last_written
  carries w m =
      record { ten = λ ws z. absurd (omega arith); eleven = λ r z. absurd (omega arith); polls = λ c n x o o' h. h }

  left : (w : Option ℕ) (s : Steps) → Leaves place low width value w s → (limit r : ℕ) (ws m : List ℕ)
      → Done w (run s limit false r ws m) (run s limit false r ws m)
  unfolding run entered last_written
  left w (end done) h l r ws m = λ z. h
  left w (end unsupported) h l r ws m = λ z. absurd (omega arith)
  left w (act a s) h l zero ws m = λ z. absurd (omega arith)
  left w (act a s) h l (suc r) ws m = left (rewritten place w a) s h l r ws m
  left w (ask q k) h l r ws m =
      answered_carries (carries w m) (heard q) (heard q) (λ x o o' d. d) r ws _ _
      (λ x r' ws'. left w (k _) (h _) l r' ws' m)
  left w (get i s) h l r ws m =
      answered_carries (carries w m) (got i) (got i) (λ x o o' d. d) r ws _ _ (λ x r' ws'. left w s h l r' ws' _)
  left w (look k) h l r ws m = left w (k m) (h m) l r ws m
  left w (wait c k u) h l r ws m =
      poll_carries (carries w m) c _ _ _ _ (λ x r' ws'. left w (k x) (h x) l r' ws' m)
      (λ r' ws' z. absurd (late_never u l r' ws' m (inl z))) l 0 r ws

  -- Where the second leaves it whatever was written before, both leave it, one after the other.
  pub then_leaves : (s t : Steps) (w : Option ℕ) → ((v : Option ℕ) → Leaves place low width value v t)
      → Leaves place low width value w (then s t)
  unfolding then
  then_leaves (end done) t w h = h w
  then_leaves (end unsupported) t w h = tt
  then_leaves (act a s) t w h = then_leaves s t _ h
  then_leaves (ask q k) t w h = λ x. then_leaves (k x) t w h
  then_leaves (get i s) t w h = then_leaves s t w h
  then_leaves (look k) t w h = λ m. then_leaves (k m) t w h
  then_leaves (wait c k u) t w h = λ x. then_leaves (k x) t w h

  -- steps with another end
  ending : (s : Steps) (w : Option ℕ) → Leaves place low width value w s → (t : Steps)
      → ((v : Option ℕ) → Left low width value v → Leaves place low width value v t)
      → Leaves place low width value w (then s t)
  unfolding then
  ending (end done) w h t g = g w h
  ending (end unsupported) w h t g = tt
  ending (act a s) w h t g = ending s _ h t g
  ending (ask q k) w h t g = λ x. ending (k x) w (h x) t g
  ending (get i s) w h t g = ending s w h t g
  ending (look k) w h t g = λ m. ending (k m) w (h m) t g
  ending (wait c k u) w h t g = λ x. ending (k x) w (h x) t g

  -- So do both where the second follows whatever the first ended with.
  pub finally_leaves : (s t : Steps) (w : Option ℕ) → ((v : Option ℕ) → Leaves place low width value v t)
      → Leaves place low width value w (finally s t)
  unfolding finally
  finally_leaves (end done) t w h = ending t w (h w) (end done) (λ v d. d)
  finally_leaves (end unsupported) t w h = ending t w (h w) (end unsupported) (λ v d. tt)
  finally_leaves (act a s) t w h = finally_leaves s t _ h
  finally_leaves (ask q k) t w h = λ x. finally_leaves (k x) t w h
  finally_leaves (get i s) t w h = finally_leaves s t w h
  finally_leaves (look k) t w h = λ m. finally_leaves (k m) t w h
  finally_leaves (wait c k u) t w h = λ x. finally_leaves (k x) t w h

pub done_leaves : DoneLeaves
done_leaves place low width value w s h l r ws m z = left place low width value w s h l r ws m z

pub done_call_leaves : DoneCallLeaves
unfolding advance ran
done_call_leaves place low width value s h refused l ws log m =
    let o = run s l false (room_of (begun log m)) (drop 0 ws) m in
    called_holds (λ st. st.number ≡ 0 → LogLeaves place low width value log st) refused s l ws log m
    (λ i z. absurd (i z))
    (λ q.
    rw (starts (run s l false) ws (begun log m) refl)
    (λ z. (o.trace, omega arith, refl, done_leaves place low width value None s h l _ _ m z)))
