-- What was done at the register block, one after the other.
use mathlib.Core.Path.{◌≡◌, refl, sym, ap, ◌∙◌}
use Prim.Native.Nat.{ℕ}
use native.Mathlib.Omega.{arith}
use Rattle.std.specs.Prelude.{Result, Ok, Err}
use Rattle.model.specs.Event.Act.{write}
use Rattle.model.specs.Event.Ask.{register}
use Rattle.model.specs.Steps.{Steps, then, change}
use Rattle.model.specs.Steps.End.{done, unsupported}
use Rattle.model.specs.Steps.Steps.{end, act}
use Rattle.model.specs.State.{advance}
use Rattle.model.proofs.Advance.{skipped, ends}
use Rattle.model.proofs.Next.{ask_next}
use Rattle.config.specs.declared.error.QspiError.{QspiError}
use Rattle.config.specs.declared.error.QspiError.TheVariants.{Unsupported}
use Rattle.config.proofs.Laws.{not_done}
use Rattle.access.specs.declared.block.RegisterBlock.{RegisterBlock}
use Rattle.access.specs.Of.{state_of}
use Rattle.access.specs.Does.{Works}
use Rattle.access.specs.Makes.{Lent, Makes, Queries, progress_at}
use Rattle.access.proofs.Sequence.{then_works, stop_does}

pub lent_then : {b r t : RegisterBlock} → Lent b r → Lent r t → Lent b t
lent_then d e = record { log = e.log ∙ d.log; answers = e.answers ∙ d.answers; limit = e.limit ∙ d.limit }

pub lent_same : (b : RegisterBlock) → Lent b b
lent_same b = record { log = refl; answers = refl; limit = refl }

module _ {b r : RegisterBlock} where
  pub then_makes : {f g : Steps} {t : RegisterBlock} {e : Result (Unit {0}) QspiError} → Makes f b r (Ok tt)
      → Makes g r t e → Makes (then f g) b t e
  then_makes d e =
      record {
        lent = lent_then d.lent e.lent;
        tally = e.tally ∙ d.tally;
        grows = omega (arith, d.grows, e.grows);
        works = λ t few. then_works (d.works t few) (rw (← d.lent.answers) (e.works t (omega (arith, few, d.grows))));
      }

  pub stop_makes : {f : Steps} (g : Steps) {e : QspiError} → Makes f b r (Err e) → Makes (then f g) b r (Err e)
  stop_makes {f} g {e} d =
      record {
        lent = d.lent;
        tally = d.tally;
        grows = d.grows;
        works = λ t few.
            let w = d.works t few in
            record { sound = w.sound; does = λ limit. stop_does f g (not_done e) (w.does limit) };
      }

  module _ (place : ℕ) (f : ℕ → ℕ) where
    -- a change whose word was not read
    pub unread : {e : QspiError} → Queries (register place) b r (Err e) → Makes (change place f) b r (Err e)
    unfolding change
    unread {e} q =
        let d = q.makes in
        record {
          lent = d.lent;
          tally = d.tally;
          grows = d.grows;
          works = λ t few.
              let w = d.works t few in
              record {
                sound = w.sound;
                does = λ limit.
                    record {
                      sound = w.sound;
                      state = λ m.
                          sym (ask_next (register place) (λ w. act (write place (f w)) (end done)) limit
                          b.answers.words.now _ _ 0
                          ((w.does limit).state m) (λ z. absurd (not_done e z))
                          ∙ skipped _ limit b.answers.words.now _ (not_done e));
                    };
              };
        }

    -- the word read, and what was made of it written
    pub changes : {p : RegisterBlock} {word value : ℕ} {e : Result (Unit {0}) QspiError}
        → Queries (register place) b r (Ok word) → value ≡ f word
        → Makes (act (write place value) (end done)) r p e → Makes (change place f) b p e
    unfolding change
    changes {p} {word} {value} {e} q v a =
        let d = q.makes in
        record {
          lent = lent_then d.lent a.lent;
          tally = a.tally ∙ d.tally;
          grows = omega (arith, d.grows, a.grows);
          works = λ t few.
              let w = d.works t few in
              let x : Works (act (write place value) (end done)) b.answers.words.now (progress_at t (Ok tt) r) r.log.now
              (progress_at t e p) p.log.now
              = rw (← d.lent.answers) (a.works t (omega (arith, few, d.grows))) in
              record {
                sound = x.sound;
                does = λ limit.
                    record {
                      sound = x.sound;
                      state = λ m.
                          (x.does limit).state m
                          ∙ ap (λ v. advance (act (write place v) (end done)) limit b.answers.words.now
                          (state_of (progress_at t (Ok tt) r) r.log.now m)) v
                          ∙ sym (ask_next (register place) (λ w. act (write place (f w)) (end done)) limit
                          b.answers.words.now _ _ word
                          ((w.does limit).state m) (λ z. q.says));
                    };
              };
        }

pub ends_unsupported : (b : RegisterBlock) → Makes (end unsupported) b b (Err Unsupported)
ends_unsupported b =
    record {
      lent = lent_same b;
      tally = refl;
      grows = omega arith;
      works = λ t few.
          record {
            sound = few;
            does = λ limit.
                record {
                  sound = few;
                  state = λ m. sym (ends unsupported limit b.answers.words.now
                      (state_of (progress_at t (Ok tt) b) b.log.now m) refl);
                };
          };
    }
