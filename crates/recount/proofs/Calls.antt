-- The steps of every call, and of every chain, pair the reads and writes of 008.
use mathlib.Core.Path.{refl}
use mathlib.Core.Bool.{Bool, true, false}
use mathlib.Core.List.{List, [], ◌∷◌, map}
use Prim.Native.Nat.{ℕ, zero, suc}
use lib.ListN.{get_or}
use Rattle.model.specs.Wait.{Cause}
use Rattle.model.specs.Wait.Cause.{space, received, empty, start}
use Rattle.model.specs.Steps.{Steps, pause}
use Rattle.model.specs.Steps.End.{done, unsupported}
use Rattle.model.specs.Steps.Steps.{end}
use Rattle.config.specs.Config.{work_mode_of}
use Rattle.config.specs.declared.config.WorkMode.{WorkMode}
use Rattle.config.specs.declared.config.WorkMode.TheVariants.{Standard, ThreeWire, Dual, DualIO, Quad, QuadIO, Qpi}
use Rattle.std.specs.Prelude.{Option, Some, None}
use Rattle.qspi.specs.Phases.{Move, reset_fifos, program_transfer, start_transfer}
use Rattle.qspi.specs.Phases.{begin_transfer, moved, paced, gots, tx_phase, rx_phase}
use Rattle.qspi.specs.Phases.Move.{sent, got}
use Rattle.mode.specs.Mode.{lines, qpi_mode, mode_changes, work_mode_steps}
use Rattle.transfer.specs.Transfer.{transfer_steps, part_steps, parts, in_place_steps}
use Rattle.quad.specs.Quad.{quad_mode, standard_mode, quad_start, quad_steps}
use Rattle.windows.specs.Windows.{write_window, transfer_windows, read_quad_windows, write_quad_windows}
use Rattle.records.specs.Check.{field}
use Rattle.chain.specs.declared.request.Settings.{Settings}
use Rattle.chain.specs.Chain.{mode_steps, kind_steps, record_steps, chain_steps}
use Rattle.bus.specs.Calls.{Call, steps_of}
use Rattle.recount.proofs.Paired.{Paired, then_paired, finally_paired, change_008, change_at, wait_paired}
use Rattle.recount.proofs.Paired.Paired.{ends, acts, gets, looks, waits}

moved_paired : (x : Move) {s : Steps} → Paired s → Paired (moved x s)
unfolding moved
moved_paired (sent b) h = acts refl h
moved_paired (got i) h = gets h

paced_paired : (c : Cause) (n : ℕ) (xs : List Move) → Paired (paced c n xs)
unfolding paced
paced_paired c n [] = ends done
paced_paired c zero (x ∷ xs) = waits (λ count. moved_paired x (paced_paired c _ xs)) (ends done)
paced_paired c (suc n) (x ∷ xs) = moved_paired x (paced_paired c n xs)

delay_paired : (cycles : ℕ) → Paired (pause cycles)
delay_paired cycles = acts refl (ends done)

reset_paired : Paired reset_fifos
unfolding reset_fifos
reset_paired = then_paired (change_at 0x018 _ refl refl) (delay_paired 10)

begin_paired : (total tx single dummy : ℕ) → Paired (begin_transfer total tx single dummy)
unfolding program_transfer start_transfer begin_transfer
begin_paired total tx single dummy =
    then_paired (then_paired (change_at 0x030 _ refl refl) (change_at 0x034 _ refl refl))
    (then_paired (change_at 0x038 _ refl refl) (change_008 _))

tx_paired : (single : Bool) (bytes : List ℕ) → Paired (tx_phase single bytes)
unfolding tx_phase
tx_paired single [] = ends done
tx_paired single (b ∷ bs) =
    then_paired reset_paired
    (then_paired (begin_paired _ _ _ _)
    (then_paired (paced_paired space 0 (map sent (b ∷ bs))) (then_paired (wait_paired empty) (wait_paired start))))

rx_paired : (at n : ℕ) → Paired (rx_phase at n)
unfolding rx_phase
rx_paired at zero = ends done
rx_paired at (suc n) =
    then_paired reset_paired
    (then_paired (begin_paired _ _ _ _) (then_paired (paced_paired received 0 (gots at (suc n))) (wait_paired start)))

lines_paired : (quad dual three : ℕ) → Paired (lines quad dual three)
unfolding lines
lines_paired quad dual three = then_paired (change_at 0x038 _ refl refl) (change_008 _)

qpi_paired : (qpi : Bool) → Paired (qpi_mode qpi)
unfolding qpi_mode
qpi_paired true = change_at 0x038 _ refl refl
qpi_paired false = ends unsupported

changes_paired : (qpi : Bool) (mode : WorkMode) → Paired (mode_changes qpi mode)
unfolding mode_changes
changes_paired qpi Standard = lines_paired 0 0 0
changes_paired qpi ThreeWire = lines_paired 0 0 1
changes_paired qpi Dual = lines_paired 0 1 0
changes_paired qpi DualIO = lines_paired 0 1 0
changes_paired qpi Quad = lines_paired 1 0 0
changes_paired qpi QuadIO = lines_paired 1 0 0
changes_paired qpi Qpi = qpi_paired qpi

mode_paired : (qpi : Bool) (mode : WorkMode) → Paired (work_mode_steps qpi mode)
unfolding work_mode_steps
mode_paired qpi mode = then_paired (wait_paired start) (changes_paired qpi mode)

transfer_paired : (bytes : List ℕ) (at n : ℕ) → Paired (transfer_steps bytes at n)
unfolding transfer_steps
transfer_paired bytes at n = then_paired (tx_paired true bytes) (rx_paired at n)

parts_paired : (count at n : ℕ) → Paired (parts count at n)
unfolding parts part_steps
parts_paired zero at n = ends done
parts_paired (suc count) at n = then_paired (looks (λ m. transfer_paired _ at _)) (parts_paired count _ _)

quad_paired : (command : List ℕ) {phase : Steps} → Paired phase → Paired (quad_steps command phase)
unfolding quad_steps quad_start quad_mode standard_mode
quad_paired command h =
    then_paired (then_paired (tx_paired true command) (mode_paired false Quad))
    (finally_paired h (mode_paired false Standard))

-- every call of the bus
pub call_paired : (call : Call) → Paired (steps_of call)
unfolding steps_of in_place_steps
call_paired (Call.write bytes) = tx_paired true bytes
call_paired (Call.read n) = rx_paired 0 n
call_paired (Call.transfer bytes n) = transfer_paired bytes 0 n
call_paired (Call.transfer_in_place n) = parts_paired _ 0 n
call_paired Call.flush = wait_paired start
call_paired (Call.set_work_mode qpi mode) = mode_paired qpi mode
call_paired (Call.read_quad rate command tclqv margin n) = quad_paired _ (rx_paired 0 n)
call_paired (Call.write_quad command bytes) = quad_paired command (tx_paired false bytes)

numbered_paired : (qpi : Bool) (found : Option WorkMode) → Paired (mode_steps qpi found)
numbered_paired qpi (Some mode) = mode_paired qpi mode
numbered_paired qpi None = ends done

module _ (settings : Settings) where
  kind_paired : (f : ℕ → ℕ) (k : ℕ) → Paired (get_or (kind_steps settings f) k (end done))
  unfolding write_window transfer_windows in_place_steps read_quad_windows write_quad_windows
  kind_paired f zero = ends done
  kind_paired f (suc zero) = looks (λ m. tx_paired true _)
  kind_paired f (suc (suc zero)) = rx_paired (f 1) (f 2)
  kind_paired f (suc (suc (suc zero))) = looks (λ m. transfer_paired _ (f 1) (f 2))
  kind_paired f (suc (suc (suc (suc zero)))) = parts_paired _ (f 1) (f 2)
  kind_paired f (suc (suc (suc (suc (suc zero))))) = delay_paired _
  kind_paired f (suc (suc (suc (suc (suc (suc zero)))))) = wait_paired start
  kind_paired f (suc (suc (suc (suc (suc (suc (suc zero))))))) = numbered_paired settings.qpi (work_mode_of (f 1))
  kind_paired f (suc (suc (suc (suc (suc (suc (suc (suc zero)))))))) =
      looks (λ m. quad_paired _ (rx_paired (f 5) (f 6)))
  kind_paired f (suc (suc (suc (suc (suc (suc (suc (suc (suc zero))))))))) =
      looks (λ m. quad_paired _ (tx_paired false _))
  kind_paired f (suc (suc (suc (suc (suc (suc (suc (suc (suc (suc k)))))))))) = ends done

  -- every chain
  pub chain_paired : (rs : List (List ℕ)) → Paired (chain_steps settings rs)
  unfolding chain_steps record_steps
  chain_paired [] = ends done
  chain_paired (r ∷ rs) = then_paired (kind_paired (field r) (field r 0)) (chain_paired rs)
