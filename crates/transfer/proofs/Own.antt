-- A part has been sent in full before its first byte is received, so its own bytes are those of a copy.
use mathlib.Core.Path.{◌≡◌, refl, ap, sym, ◌∙◌}
use mathlib.Core.Bool.{Bool, true, false, cond}
use mathlib.Core.List.{List, [], ◌∷◌, map}
use Prim.Native.Nat.{ℕ, zero, suc, ◌+◌, ◌-◌, ◌/◌, ◌≤◌, min}
use native.Mathlib.Omega.{arith}
use lib.Dec.{eqb}
use lib.ListN.{length, get_or, take, drop, length-map}
use Rattle.std.specs.List.{range_with_len}
use Rattle.std.proofs.lemmas.List.{drop_more}
use Rattle.model.specs.Wait.{Cause}
use Rattle.model.specs.Wait.Cause.{space, empty, start}
use Rattle.model.specs.Steps.{Steps, then, change, wait_for}
use Rattle.model.specs.Steps.End.{done}
use Rattle.model.specs.State.{State, with_number, begun, room_of, ran, onward, advance, called}
use Rattle.model.specs.Own.{own, Copied}
use Rattle.model.specs.Own.Copied.{ends, writes, sends, delays, asks, waits}
use Rattle.model.specs.Event.Ask.{register}
use Rattle.model.proofs.Own.{own_as_copied, copied_then}
use Rattle.model.proofs.Advance.{advance_then}
use Rattle.model.proofs.Next.{look_next}
use Rattle.model.proofs.Kept.{every_advance_keeps}
use Rattle.qspi.specs.Phases.{reset_fifos, program_transfer, start_transfer, begin_transfer}
use Rattle.qspi.specs.Phases.{moved, paced, tx_phase, rx_phase}
use Rattle.qspi.specs.Phases.Move.{sent}
use Rattle.transfer.specs.Transfer.{transfer_steps, part_steps, parts, in_place_steps}
use Rattle.transfer.specs.Own.{own_part_steps, own_parts, own_in_place_steps, OwnBytes, OwnBytesCalled}

module _ (m : List ℕ) where
  abbrev byte : ℕ → ℕ
  byte i = get_or m i 0

  change_copied : (place : ℕ) (f : ℕ → ℕ) → Copied m (change place f) (change place f)
  unfolding change
  change_copied place f = asks (register place) (λ w. writes place (f w) (ends done))

  wait_copied : (c : Cause) → Copied m (wait_for c) (wait_for c)
  unfolding wait_for
  wait_copied c = waits c (λ n. ends done) (ends done)

  reset_copied : Copied m reset_fifos reset_fifos
  unfolding reset_fifos
  reset_copied = copied_then m (change_copied 0x018 _) (delays 10 (ends done))

  begin_copied : (total tx single dummy : ℕ)
      → Copied m (begin_transfer total tx single dummy) (begin_transfer total tx single dummy)
  unfolding begin_transfer program_transfer start_transfer
  begin_copied total tx single dummy =
      copied_then m (copied_then m (change_copied 0x030 _) (change_copied 0x034 _))
      (copied_then m (change_copied 0x038 _) (change_copied 0x008 _))

  sends_copied : (count : ℕ) (xs : List ℕ)
      → Copied m (paced space count (map sent xs)) (paced space count (map sent (map byte xs)))
  unfolding paced moved
  sends_copied count [] = ends done
  sends_copied zero (x ∷ xs) = waits space (λ count. sends x (sends_copied _ xs)) (ends done)
  sends_copied (suc count) (x ∷ xs) = sends x (sends_copied count xs)

  tx_copied : (single : Bool) (xs : List ℕ) → Copied m (tx_phase single xs) (tx_phase single (map byte xs))
  unfolding tx_phase
  tx_copied single [] = ends done
  tx_copied single (x ∷ xs) = sized (length (map byte xs)) (length-map xs byte)
    where
      ending : Steps
      ending = then (wait_for empty) (wait_for start)

      sized : (n : ℕ) → n ≡ length xs
          → Copied m (tx_phase single (x ∷ xs))
          (then reset_fifos
          (then (begin_transfer (suc n) (suc n) (cond single (suc n) 0) 0)
          (then (paced space 0 (map sent (map byte (x ∷ xs)))) ending)))
      sized n e =
          rw e
          (copied_then m reset_copied
          (copied_then m (begin_copied _ _ _ _)
          (copied_then m (sends_copied 0 (x ∷ xs)) (copied_then m (wait_copied empty) (wait_copied start)))))

  -- the bytes at n indices from `at` on
  taken : (at n : ℕ) → at + n ≤ length m → map byte (range_with_len at n) ≡ take n (drop at m)
  taken at zero h = refl
  taken at (suc n) h = rw (drop_more m at 0 (omega arith)) (ap (byte at ∷◌) (taken (at + 1) n (omega arith)))

-- The write of a part, from the memory itself and from a copy.
sent_own : (at n limit : ℕ) (answers : List ℕ) (st : State) → at + n ≤ length st.memory
    → advance (own (tx_phase true (range_with_len at n))) limit answers st
    ≡ advance (tx_phase true (take n (drop at st.memory))) limit answers st
unfolding advance onward
sent_own at n limit ws st h =
    let copied = tx_copied st.memory true (range_with_len at n) in
    let same = own_as_copied st.memory _ _ copied limit false (room_of st) (drop st.taken ws) in
    ap (λ o. cond (eqb st.number 0) (ran st o) st) same
    ∙ ap (λ bytes. advance (tx_phase true bytes) limit ws st) (taken st.memory at n h)

part_own : (at n limit : ℕ) (answers : List ℕ) (st : State) → at + n ≤ length st.memory
    → advance (own_part_steps at n) limit answers st ≡ advance (part_steps at n) limit answers st
unfolding own_part_steps part_steps transfer_steps
part_own at n limit ws st h =
    advance_then (own (tx_phase true (range_with_len at n))) (rx_phase at n) limit ws st
    ∙ ap (advance (rx_phase at n) limit ws) (sent_own at n limit ws st h)
    ∙ sym (advance_then (tx_phase true (take n (drop at st.memory))) (rx_phase at n) limit ws st)
    ∙ sym (look_next (λ m. transfer_steps (take n (drop at m)) at n) limit ws st)

parts_own : (count at n limit : ℕ) (answers : List ℕ) (st : State) → at + n ≤ length st.memory
    → advance (own_parts count at n) limit answers st ≡ advance (parts count at n) limit answers st
unfolding own_parts parts
parts_own zero at n limit ws st h = refl
parts_own (suc count) at n limit ws st h =
    let size = min 256 n in
    let next = advance (part_steps at size) limit ws st in
    let kept = (every_advance_keeps (part_steps at size) limit ws st).memory in
    advance_then (own_part_steps at size) _ limit ws st
    ∙ ap (advance (own_parts count (at + size) (n - size)) limit ws) (part_own at size limit ws st (omega arith))
    ∙ parts_own count (at + size) (n - size) limit ws next (omega (arith, kept))
    ∙ sym (advance_then (part_steps at size) _ limit ws st)

pub own_bytes : OwnBytes
unfolding own_in_place_steps in_place_steps
own_bytes at n limit ws st h = parts_own ((n + 255) / 256) at n limit ws st h

pub own_bytes_called : OwnBytesCalled
unfolding called
own_bytes_called refused limit ws log words =
    ap (λ st. cond (eqb refused 0) st (with_number refused (begun log words)))
    (own_bytes 0 (length words) limit ws (begun log words) (omega arith))
