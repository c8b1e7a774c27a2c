-- Kinds 1 to 5 never end unsupported, so a transaction gives no 2.
use mathlib.Core.Path.{◌≡◌, refl}
use mathlib.Core.Bool.{Bool, true, false, ◌&&◌}
use mathlib.Core.List.{List, [], ◌∷◌}
use Prim.Native.Nat.{ℕ, zero, suc, ◌≤◌, min}
use native.Mathlib.Omega.{arith}
use lib.Dec.{leb}
use lib.ListN.{length, get_or, take, drop}
use borrow.Author.Tests.{leb-true}
use Rattle.model.specs.Steps.{Steps}
use Rattle.model.specs.Steps.End.{done}
use Rattle.model.specs.Steps.Steps.{end}
use Rattle.model.specs.Run.{run}
use Rattle.model.specs.State.{begun, room_of, ran, advance, called}
use Rattle.model.specs.Supported.{Supported}
use Rattle.model.proofs.Advance.{starts}
use Rattle.model.proofs.Called.{called_holds, limit_never}
use Rattle.model.proofs.Supported.{supported_never_2, then_supported}
use Rattle.qspi.proofs.Supported.{tx_supported, rx_supported}
use Rattle.transfer.specs.Transfer.{transfer_steps, part_steps, parts, in_place_steps}
use Rattle.windows.specs.Windows.{window, write_window, transfer_windows}
use Rattle.records.specs.Check.{field, known, verdict, number_of, chain_of}
use Rattle.records.specs.Laws.{Each}
use Rattle.records.proofs.Known.{kinds_known}
use Rattle.chain.specs.declared.request.Settings.{Settings}
use Rattle.chain.specs.Chain.{kind_steps, record_steps, chain_steps}
use Rattle.chain.specs.Transaction.{found_in, refusal, outcome, transaction}
use Rattle.chain.specs.Laws.{TransactionNever2}
use Rattle.chain.proofs.Entry.{never_two}

transfer_supported : (bytes : List ℕ) (at n : ℕ) → Supported (transfer_steps bytes at n)
unfolding transfer_steps
transfer_supported bytes at n = then_supported _ _ (tx_supported true bytes) (rx_supported at n)

parts_supported : (count at n : ℕ) → Supported (parts count at n)
unfolding parts part_steps
parts_supported zero at n = tt
parts_supported (suc count) at n =
    then_supported (part_steps at (min 256 n)) _
    (λ m. transfer_supported (take (min 256 n) (drop at m)) at (min 256 n)) (parts_supported count _ _)

between : (k : ℕ) → (leb 1 k && (leb k 5 && leb k 9)) ≡ true → (1 ≤ k) × (k ≤ 5)
between k = by (leb 1 k) refl (leb k 5) refl
  where
    by : (a : Bool) → leb 1 k ≡ a → (b : Bool) → leb k 5 ≡ b → (a && (b && leb k 9)) ≡ true → (1 ≤ k) × (k ≤ 5)
    by true p true q e = (leb-true _ _ p, leb-true _ _ q)
    by true p false q e = let z : ◌≡◌ {A = ℕ} 0 1 = cc in absurd (omega arith)
    by false p b q e = let z : ◌≡◌ {A = ℕ} 0 1 = cc in absurd (omega arith)

module _ (settings : Settings) where
  kind_supported : (f : ℕ → ℕ) (k : ℕ) → 1 ≤ k → k ≤ 5 → Supported (get_or (kind_steps settings f) k (end done))
  unfolding write_window transfer_windows in_place_steps
  kind_supported f zero l h = absurd (omega arith)
  kind_supported f (suc zero) l h = λ m. tx_supported true (window (f 1) (f 2) m)
  kind_supported f (suc (suc zero)) l h = rx_supported (f 1) (f 2)
  kind_supported f (suc (suc (suc zero))) l h = λ m. transfer_supported (window (f 3) (f 4) m) (f 1) (f 2)
  kind_supported f (suc (suc (suc (suc zero)))) l h = parts_supported _ (f 1) (f 2)
  kind_supported f (suc (suc (suc (suc (suc zero))))) l h = tt
  kind_supported f (suc (suc (suc (suc (suc (suc k)))))) l h = absurd (omega arith)

  chain_supported : (rs : List (List ℕ)) → Each (λ r. known 5 (field r 0) ≡ true) rs
      → Supported (chain_steps settings rs)
  unfolding chain_steps record_steps
  chain_supported [] h = tt
  chain_supported (r ∷ rs) h =
      let b = between (field r 0) h.0 in
      then_supported _ _ (kind_supported (field r) (field r 0) b.0 b.1) (chain_supported rs h.1)

-- what never ends unsupported and is not refused by 2 gives no 2
called_not : (refused : ℕ) (s : Steps) → Supported s → (limit : ℕ) (answers log m : List ℕ) → (refused ≡ 2 → ⊥)
    → (called refused s limit answers log m).number ≡ 2 → ⊥
unfolding advance ran
called_not refused s h limit answers log m i =
    called_holds (λ st. st.number ≡ 2 → ⊥) refused s limit answers log m (λ n. i)
    (λ z. rw (starts (run s limit false) answers (begun log m) refl)
    (supported_never_2 s h limit false (room_of (begun log m)) answers m))

pub transaction_never_2 : TransactionNever2
unfolding outcome refusal
transaction_never_2 core_hz words limit answers log m =
    let c = transaction core_hz words in
    let found = found_in c (length m) in
    called_not (refusal limit found) (chain_steps c.settings (chain_of found))
    (chain_supported c.settings (chain_of found) (kinds_known c.settings.rules (length m) words)) limit answers log m
    (limit_never limit (number_of (verdict found)) 2 (λ e. omega (arith, e))
    (never_two c.settings.rules (length m) words))
