-- An opening and a release wait for nothing, and what waits for nothing makes no poll.
use mathlib.Core.Path.{◌≡◌, refl}
use mathlib.Core.Bool.{Bool, true, false}
use mathlib.Core.List.{List, [], ◌∷◌}
use Prim.Native.Nat.{ℕ}
use native.Mathlib.Omega.{arith}
use Rattle.model.specs.Event.{Event}
use Rattle.model.specs.Event.Event.{did, heard, got, polled}
use Rattle.model.specs.Tally.{none, plus, poll_tally, tally_event, tally_of}
use Rattle.model.specs.Steps.{Steps, then, change, pause}
use Rattle.model.specs.Run.{run}
use Rattle.model.specs.State.{begun, room_of, ran, advance, called}
use Rattle.model.specs.Polls.{AtMost, all_polls}
use Rattle.model.proofs.Advance.{starts}
use Rattle.model.proofs.Called.{called_holds}
use Rattle.model.proofs.Polls.{both, change_weight, bound, polls_weigh}
use Rattle.config.specs.declared.config.CsConfig.{CsConfig}
use Rattle.std.specs.Prelude.{Option, None, Some}
use Rattle.config.specs.declared.config.WorkMode.{WorkMode}
use Rattle.config.specs.declared.config.WorkMode.TheVariants.{Standard, ThreeWire, Dual, DualIO, Quad, QuadIO, Qpi}
use Rattle.clock.specs.declared.DividerSelect.{DividerSelect}
use Rattle.clock.specs.declared.DividerSelect.TheVariants.{Cdr1, Cdr2}
use Rattle.configure.specs.Steps.{enable_module_clock, clock_divider, controller_clock, controller_on, chip_select}
use Rattle.configure.specs.Steps.{transfer_format, transfer_config, bus_mode, configure_work_mode, register_steps}
use Rattle.configure.specs.Steps.{fifo_steps}
use Rattle.opening.specs.Steps.{opening_steps, release_steps}
use Rattle.opening.specs.declared.Opening.{Opening}
use Rattle.opening.specs.Call.{steps_of}

-- A trace with no poll has no longest either.
quiet : (t : List Event) → (tally_of t).polls ≡ 0 → tally_of t ≡ none
unfolding tally_of plus tally_event poll_tally
quiet [] h = refl
quiet (did a ∷ t) h = rw (quiet t (omega (arith, h))) refl
quiet (heard q x ∷ t) h = rw (quiet t (omega (arith, h))) refl
quiet (got i x ∷ t) h = rw (quiet t (omega (arith, h))) refl
quiet (polled c n x ∷ t) h = absurd (omega (arith, h))

pub called_polls : (refused : ℕ) (s : Steps) (limit : ℕ) (answers log m : List ℕ) → AtMost all_polls limit 0 s
    → (called refused s limit answers log m).tally ≡ none
unfolding advance ran plus
called_polls refused s l ws log m h =
    let t = (run s l false (room_of (begun log m)) ws m).trace in
    let q : tally_of t ≡ none =
    quiet t (omega (arith, bound all_polls l 0 s h false (room_of (begun log m)) ws m, polls_weigh t)) in
    called_holds (λ st. st.tally ≡ none) refused s l ws log m (λ i. refl)
    (λ z. rw (starts (run s l false) ws (begun log m) refl, q) refl)

module _ (limit : ℕ) where
  abbrev Quiet : Steps → Type 0
  Quiet s = AtMost all_polls limit 0 s

  -- one after the other
  after : (s t : Steps) → Quiet s → Quiet t → Quiet (then s t)
  after s t = both all_polls limit 0 0 s t

  change_waits : (place : ℕ) (f : ℕ → ℕ) → Quiet (change place f)
  change_waits place f = change_weight all_polls limit place f

  pause_waits : (cycles : ℕ) → Quiet (pause cycles)
  pause_waits cycles = (0, omega arith, tt)

  divider_waits : (d : DividerSelect) → Quiet (clock_divider d)
  unfolding clock_divider
  divider_waits (Cdr1 c) = change_waits _ _
  divider_waits (Cdr2 c) = change_waits _ _

  chip_waits : (cs : Option CsConfig) → Quiet (chip_select cs)
  unfolding chip_select
  chip_waits None = tt
  chip_waits (Some cs) = change_waits _ _

  mode_waits : (mode : WorkMode) (bits : Bool) → Quiet (configure_work_mode mode bits)
  unfolding configure_work_mode bus_mode
  mode_waits Standard bits = change_waits _ _
  mode_waits ThreeWire true = change_waits _ _
  mode_waits ThreeWire false = after _ _ (change_waits _ _) (change_waits _ _)
  mode_waits Dual bits = change_waits _ _
  mode_waits DualIO bits = change_waits _ _
  mode_waits Quad bits = change_waits _ _
  mode_waits QuadIO bits = change_waits _ _
  mode_waits Qpi bits = change_waits _ _

  pub opening_waits : (o : Opening) → Quiet (steps_of o)
  unfolding steps_of opening_steps enable_module_clock register_steps controller_clock controller_on transfer_config
      transfer_format fifo_steps
  opening_waits o =
      after _ _
      (after _ _ (change_waits _ _) (after _ _ (change_waits _ _) (after _ _ (pause_waits 500) (change_waits _ _))))
      (after _ _
      (after _ _
      (after _ _ (change_waits _ _) (after _ _ (pause_waits 500) (after _ _ (divider_waits _) (pause_waits 100))))
      (after _ _ (after _ _ (change_waits _ _) (change_waits _ _))
      (after _ _ (after _ _ (change_waits _ _) (after _ _ (chip_waits _) (change_waits _ _))) (mode_waits _ _))))
      (after _ _ (change_waits _ _) (after _ _ (pause_waits 100) (change_waits _ _))))

  pub release_waits : (instance : ℕ) → Quiet (release_steps instance)
  unfolding release_steps
  release_waits i = change_waits _ _
