-- While nothing is received into the memory, a byte looked at when it is sent is the byte of a copy taken before.
use mathlib.Core.Path.{◌≡◌, refl, ap}
use mathlib.Core.Bool.{Bool, true}
use mathlib.Core.List.{List}
use Prim.Native.Nat.{ℕ}
use lib.ListN.{get_or}
use Rattle.model.specs.Event.Event.{did, heard, polled}
use Rattle.model.specs.Event.Act.{write, send, delay}
use Rattle.model.specs.Steps.{Steps, then}
use Rattle.model.specs.Steps.End.{done, unsupported}
use Rattle.model.specs.Run.{Outcome, after, run}
use Rattle.model.specs.Own.{own, Copied, OwnAsCopied}
use Rattle.model.specs.Own.Copied.{ends, writes, sends, delays, asks, looks, waits}
use Rattle.model.proofs.Carries.{Carries, entered_carries, answered_carries, poll_carries}

module _ (m : List ℕ) where
  alike : Carries (λ (o o' : Outcome). o ≡ o') m m
  alike = record { ten = λ ws. refl; eleven = λ r. refl; polls = λ c n x o o' e. ap (after (polled c n x)) e }

  runs : {s t : Steps} → Copied m s t → (l : ℕ) (b : Bool) (r : ℕ) (ws : List ℕ)
      → run (own s) l b r ws m ≡ run t l b r ws m
  unfolding run own
  runs (ends e) l b r ws = refl
  runs (writes place value h) l b r ws =
      entered_carries alike (did (write place value)) (did (write place value)) (λ o o' e. ap (after _) e) r ws _ _
      (λ r'. runs h l b r' ws)
  runs (sends i h) l b r ws =
      entered_carries alike (did (send (get_or m i 0))) (did (send (get_or m i 0))) (λ o o' e. ap (after _) e) r ws _ _
      (λ r'. runs h l b r' ws)
  runs (delays cycles h) l b r ws =
      entered_carries alike (did (delay cycles)) (did (delay cycles)) (λ o o' e. ap (after _) e) r ws _ _
      (λ r'. runs h l b r' ws)
  runs (asks q h) l b r ws =
      answered_carries alike (heard q) (heard q) (λ x o o' e. ap (after _) e) r ws _ _
      (λ x r' ws'. runs (h _) l b r' ws')
  runs (looks h) l b r ws = runs h l b r ws
  runs (waits c h i) l b r ws =
      poll_carries alike c _ _ _ _ (λ x r' ws'. runs (h x) l b r' ws') (λ r' ws'. runs i l true r' ws') l 0 r ws

  -- one behind the other
  pub copied_then : {s s' t t' : Steps} → Copied m s s' → Copied m t t' → Copied m (then s t) (then s' t')
  unfolding then
  copied_then (ends done) j = j
  copied_then (ends unsupported) j = ends unsupported
  copied_then (writes place value h) j = writes place value (copied_then h j)
  copied_then (sends i h) j = sends i (copied_then h j)
  copied_then (delays cycles h) j = delays cycles (copied_then h j)
  copied_then (asks q h) j = asks q (λ x. copied_then (h x) j)
  copied_then (looks h) j = looks (copied_then h j)
  copied_then (waits c h i) j = waits c (λ x. copied_then (h x) j) i

pub own_as_copied : OwnAsCopied
own_as_copied m s t h = runs m h
