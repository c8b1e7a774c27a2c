-- The loop of a wait: what each turn's read leads to.
use mathlib.Core.Path.{◌≡◌, refl, ap, sym, ◌∙◌}
use mathlib.Core.Bool.{Bool, true, false}
use mathlib.Core.List.{List}
use lib.ListN.{get_or}
use Prim.Native.Nat.{ℕ, suc, ◌+◌, ◌-◌, ◌≤◌, ◌<◌}
use native.Mathlib.Omega.{arith}
use native.Mathlib.Numerals.{add-one}
use Rattle.std.specs.Prelude.{Result, Ok, Err}
use Rattle.std.specs.Int.NonZero.{non_zero_u32_get}
use Rattle.model.specs.Wait.{Cause, place_of, count_of, ready}
use Rattle.model.specs.Event.Ask.{register}
use Rattle.model.specs.Event.Event.{polled}
use Rattle.model.specs.Tally.{plus, poll_tally, tally_event}
use Rattle.model.specs.Steps.{Steps}
use Rattle.model.specs.Steps.End.{done}
use Rattle.model.specs.Steps.Steps.{end, ask, wait}
use Rattle.model.specs.State.{State, advance}
use Rattle.model.proofs.Advance.{skipped}
use Rattle.model.proofs.Next.{tallied, waiting, waits, poll_stopped, poll_ready, poll_unready, poll_late}
use Rattle.config.specs.declared.error.QspiError.{QspiError}
use Rattle.config.specs.declared.error.QspiError.TheVariants.{Timeout}
use Rattle.access.specs.declared.progress.Tally.{Tally}
use Rattle.access.specs.declared.block.RegisterBlock.{RegisterBlock}
use Rattle.access.specs.Of.{tally_in, state_of}
use Rattle.access.specs.Makes.{Lent, Queries, progress_at, stopped}
use Rattle.config.proofs.Laws.{not_done}
use Rattle.access.proofs.Makes.{lent_then, lent_same}
use Rattle.waits.specs.Does.{Polls}

abbrev limit_of : RegisterBlock → ℕ
limit_of b = non_zero_u32_get b.limit

-- the state at a block
abbrev at_block : Tally → Result (Unit {0}) QspiError → RegisterBlock → List ℕ → State
at_block t e b m = state_of (progress_at t e b) b.log.now m

-- the wait, n unready polls on
pub record Polling (c : Cause) (t : Tally) (b : RegisterBlock) (t' : Tally) (b' : RegisterBlock) (n : ℕ) : Type 0 where
  pub sound : t'.polls ≤ b'.entries
  pub below : n < non_zero_u32_get b.limit
  pub lent : Lent b b'
  pub state : (m : List ℕ) (k : ℕ → Steps)
      → advance (wait c k (end done)) (limit_of b) b.answers.words.now (at_block t (Ok tt) b m)
      ≡ waiting c k (end done) (limit_of b) (limit_of b - n) n b.answers.words.now (at_block t' (Ok tt) b' m)

pub polling_starts : (c : Cause) (t : Tally) (b : RegisterBlock) → t.polls ≤ b.entries → Polling c t b t b 0
polling_starts c t b few =
    let e : limit_of b - 0 ≡ limit_of b = omega arith in
    record {
      sound = few;
      below = b.limit.ok;
      lent = lent_same _;
      state = λ m k. rw e (waits c k (end done) (limit_of b) b.answers.words.now (at_block t (Ok tt) b m));
    }

-- one more poll, a read of the register at `place`, from the block b' to the block r
module _ {c : Cause} {t : Tally} {b : RegisterBlock} {t' : Tally} {b' : RegisterBlock} {n : ℕ}
    (on : Polling c t b t' b' n) where
  one_more : limit_of b - n ≡ suc (limit_of b - (n + 1))
  one_more = let h = on.below in omega arith

  module _ {place : ℕ} (at : place ≡ place_of c) {r : RegisterBlock} where
    read : {a : Result ℕ QspiError} → Queries (register place) b' r a → (m : List ℕ)
        → at_block t' (stopped a) r m
        ≡ advance (ask (register (place_of c)) (λ x. end done))
        (limit_of b) b.answers.words.now (at_block t' (Ok tt) b' m)
    read q m = rw (← on.lent.answers, ← at) (((q.makes.works t' on.sound).does (limit_of b)).state m)

    pub polling_stops : {e : QspiError} → Queries (register place) b' r (Err e) → Polls c t b t' r (Err e)
    polling_stops {e} q =
        record {
          lent = lent_then on.lent q.makes.lent;
          waits = record {
            sound = (q.makes.works t' on.sound).sound;
            state = λ m k.
                on.state m k
                ∙ rw one_more (poll_stopped c k (end done) (limit_of b) _ n b.answers.words.now _ _ 0 (read q m)
                (λ z. absurd (not_done e z)) (not_done e))
                ∙ sym (skipped (k 0) (limit_of b) b.answers.words.now (at_block t' (Err e) r m) (not_done e));
            counts = λ z. absurd (not_done e z);
          };
        }

    -- the poll counted in the tally s, by a test v of the word
    module _ {word : ℕ} {s : Tally} {v : Bool} (q : Queries (register place) b' r (Ok word))
        (adds : tally_in s ≡ plus (tally_in t') (poll_tally c n v)) (tests : v ≡ ready c word) where
      counted_state : (m : List ℕ) → at_block s (Ok tt) r m ≡ tallied (tally_event (polled c n word))
          (at_block t' (Ok tt) r m)
      unfolding tally_event
      counted_state m = rw (← tests, ← adds) refl

      says : word ≡ get_or b.answers.words.now b'.answers.at 0
      says = rw (← on.lent.answers) q.says

      pub counted_sound : s.polls ≤ r.entries
      unfolding plus poll_tally
      counted_sound = let e = ap (λ a. a.polls) adds in omega (arith, q.rises refl, on.sound)

      pub polling_ready : {count : ℕ} → v ≡ true → count ≡ count_of c word → Polls c t b s r (Ok count)
      polling_ready {count} e h =
          record {
            lent = lent_then on.lent q.makes.lent;
            waits = record {
              sound = counted_sound;
              state = λ m k.
                  on.state m k
                  ∙ rw (counted_state m, h, one_more)
                  (poll_ready c k (end done) (limit_of b) _ n b.answers.words.now _ _ word (read q m) (λ z. says) refl
                  (sym tests ∙ e));
              counts = λ z. (word, sym tests ∙ e, h);
            };
          }

      polling_unready : v ≡ false → (m : List ℕ) (k : ℕ → Steps)
          → advance (wait c k (end done)) (limit_of b) b.answers.words.now (at_block t (Ok tt) b m)
          ≡ waiting c k (end done) (limit_of b) (limit_of b - (n + 1))
          (n + 1) b.answers.words.now (at_block s (Ok tt) r m)
      polling_unready e m k =
          on.state m k
          ∙ rw (counted_state m, one_more, add-one n)
          (poll_unready c k (end done) (limit_of b) _ n b.answers.words.now _ _ word (read q m) (λ z. says) refl
          (sym tests ∙ e))

      pub polling_again : v ≡ false → n + 1 < limit_of b → Polling c t b s r (n + 1)
      polling_again e h =
          record {
            sound = counted_sound;
            below = h;
            lent = lent_then on.lent q.makes.lent;
            state = polling_unready e;
          }

      pub polling_late : v ≡ false → n + 1 ≡ limit_of b → Polls c t b s r (Err Timeout)
      polling_late e h =
          let o : limit_of b - (n + 1) ≡ 0 = omega arith in
          record {
            lent = lent_then on.lent q.makes.lent;
            waits = record {
              sound = counted_sound;
              state = λ m k.
                  polling_unready e m k ∙ rw o
                  (poll_late c k (limit_of b) (n + 1) b.answers.words.now (at_block s (Ok tt) r m) refl)
                  ∙ sym (skipped (k 0) (limit_of b) b.answers.words.now (at_block s (Err Timeout) r m)
                  (not_done Timeout));
              counts = λ z. absurd (not_done Timeout z);
            };
          }
