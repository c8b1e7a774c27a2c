-- The loops that move bytes in a log, with no wait.
use mathlib.Core.Path.{◌≡◌, refl}
use mathlib.Core.List.{List, map}
use Prim.Native.Nat.{ℕ, ◌+◌, ◌≤◌, ◌<◌}
use native.Mathlib.Omega.{arith}
use lib.ListN.{length, get_or, set, length-set}
use Rattle.std.specs.Prelude.{Ok, Err}
use Rattle.model.specs.Event.{said}
use Rattle.model.specs.Event.Act.{send}
use Rattle.model.specs.Event.Ask.{byte}
use Rattle.model.specs.Steps.End.{done}
use Rattle.model.specs.Steps.Steps.{end, act, ask}
use Rattle.config.specs.declared.error.QspiError.{QspiError}
use Rattle.config.specs.Error.{error_number}
use Rattle.access.specs.declared.progress.Tally.{Tally}
use Rattle.access.specs.Does.{Works}
use Rattle.config.proofs.Laws.{not_done}
use Rattle.qspi.specs.Phases.{moved_all, gots}
use Rattle.qspi.specs.Phases.Move.{sent}
use Rattle.qspi.specs.Entered.{counts, Enters, EntersOn}
use Rattle.qspi.proofs.Bytes.{Sending, sending_starts, sending_more, sending_stops, sending_done}
use Rattle.qspi.proofs.Bytes.{Getting, getting_starts, getting_more, getting_stops, getting_done}

-- sending, after i bytes
pub record SendingIn (bytes log : List ℕ) (n : ℕ) (log' : List ℕ) (n' i : ℕ) : Type 0 where
  pub grows : n ≤ n'
  pub sends : (ws : List ℕ) (taken : ℕ) (t : Tally) → t.polls ≤ n
      → Sending bytes ws (counts (Ok tt) n taken t) log (counts (Ok tt) n' taken t) log' i

pub sending_begins : (bytes log : List ℕ) (n : ℕ) → SendingIn bytes log n log n 0
sending_begins bytes log n = record { grows = omega arith; sends = λ ws taken t few. sending_starts bytes _ _ _ few }

module _ {bytes log log' : List ℕ} {n n' i : ℕ} (on : SendingIn bytes log n log' n' i) (h : i < length bytes) where
  pub sending_on : {log'' : List ℕ}
      → ((ws : List ℕ) (taken : ℕ) (t : Tally) → t.polls ≤ n'
      → Works (act (send (get_or bytes i 0)) (end done)) ws (counts (Ok tt) n' taken t) log'
      (counts (Ok tt) (n' + 1) taken t) log'')
      → SendingIn bytes log n log'' (n' + 1) (i + 1)
  sending_on w =
      record {
        grows = omega (arith, on.grows);
        sends = λ ws taken t few. sending_more (on.sends ws taken t few) h (w ws taken t (omega (arith, few, on.grows)));
      }

  pub sending_ends : {e : QspiError} {log'' : List ℕ}
      → ((ws : List ℕ) (taken : ℕ) (t : Tally) → t.polls ≤ n'
      → Works (act (send (get_or bytes i 0)) (end done)) ws (counts (Ok tt) n' taken t) log'
      (counts (Err e) n' taken t) log'')
      → Enters (moved_all (map sent bytes)) log n log'' n' (Err e)
  sending_ends {e} w =
      record {
        grows = on.grows;
        works = λ ws taken t few.
            sending_stops (on.sends ws taken t few) h (w ws taken t (omega (arith, few, on.grows))) (not_done e);
      }

pub all_sent : {bytes log log' : List ℕ} {n n' i : ℕ} → SendingIn bytes log n log' n' i → length bytes ≤ i
    → Enters (moved_all (map sent bytes)) log n log' n' (Ok tt)
all_sent on h = record { grows = on.grows; works = λ ws taken t few. sending_done (on.sends ws taken t few) h }

-- receiving, after i bytes, into the memory that was `buf` and is `buf'` now
pub record GettingIn (buf answers log : List ℕ) (n taken : ℕ) (log' : List ℕ) (n' taken' : ℕ) (buf' : List ℕ) (i : ℕ)
    : Type 0 where
  pub grows : n ≤ n'
  pub same : length buf' ≡ length buf
  pub gets : (t : Tally) → t.polls ≤ n
      → Getting buf answers (counts (Ok tt) n taken t) log (counts (Ok tt) n' taken' t) log' buf' i

pub getting_begins : (buf answers log : List ℕ) (n taken : ℕ) → GettingIn buf answers log n taken log n taken buf 0
getting_begins buf answers log n taken =
    record { grows = omega arith; same = refl; gets = λ t few. getting_starts buf _ _ _ few }

module _ {buf answers log log' buf' : List ℕ} {n taken n' taken' i : ℕ}
    (on : GettingIn buf answers log n taken log' n' taken' buf' i) (h : i < length buf) where
  pub getting_on : {word : ℕ} {log'' : List ℕ} → word ≡ said byte (get_or answers taken' 0)
      → ((t : Tally) → t.polls ≤ n'
      → Works (ask byte (λ x. end done)) answers (counts (Ok tt) n' taken' t) log'
      (counts (Ok tt) (n' + 1) (taken' + 1) t) log'')
      → GettingIn buf answers log n taken log'' (n' + 1) (taken' + 1) (set buf' i word) (i + 1)
  getting_on {word} says w =
      record {
        grows = omega (arith, on.grows);
        same = simp length-set on.same;
        gets = λ t few. getting_more (on.gets t few) h (w t (omega (arith, few, on.grows))) (λ z. says) refl;
      }

  pub getting_ends : {e : QspiError} {log'' : List ℕ}
      → ((t : Tally) → t.polls ≤ n'
      → Works (ask byte (λ x. end done)) answers (counts (Ok tt) n' taken' t) log' (counts (Err e) n' taken' t) log'')
      → EntersOn (moved_all (gots 0 (length buf))) answers log n taken buf log'' n' taken' buf' (Err e)
  getting_ends {e} w =
      record {
        grows = on.grows;
        gets = λ t few.
            let none : error_number e ≡ 0 → 0 ≡ said byte (get_or answers taken' 0) = λ z. absurd (not_done e z) in
            getting_stops (on.gets t few) h (w t (omega (arith, few, on.grows))) none (not_done e);
      }

pub all_got : {buf answers log log' buf' : List ℕ} {n taken n' taken' i : ℕ}
    → GettingIn buf answers log n taken log' n' taken' buf' i → length buf ≤ i
    → EntersOn (moved_all (gots 0 (length buf))) answers log n taken buf log' n' taken' buf' (Ok tt)
all_got on h = record { grows = on.grows; gets = λ t few. getting_done (on.gets t few) h }
