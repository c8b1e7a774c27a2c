-- Calls that may be refused, lifted from their steps.
use mathlib.Core.Path.{◌∙◌}
use mathlib.Core.List.{◌++◌}
use mathlib.Core.Logic.{⊎_elim}
use native.Mathlib.Omega.{arith}
use Rattle.model.specs.Limit.{Ended, AgainCall}
use Rattle.model.specs.Refusable.{made, LimitedSteady, EndedLifts, AnotherLimitCalled}
use Rattle.model.proofs.Advance.{another_limit_call}
use Rattle.model.proofs.Called.{called_holds, called_runs, limit_accepted, limit_passed, limit_never}

pub limited_steady : LimitedSteady
limited_steady other s two =
    record {
      accepted = λ l l' some z. limit_passed l' other (λ e. omega (arith, e)) ∙ (limit_accepted l other z).1;
      never_2 = λ l. limit_never l other 2 (λ e. omega (arith, e)) two;
    }

pub ended_lifts : EndedLifts
ended_lifts R c steady l l' ws ws' log log' m m' some h =
    called_holds (λ st. Ended st.number → R st (made c l' ws' log' m')) (c.refused_at l) c.steps l ws log m
    (λ i. ⊎_elim (λ z. absurd (i z)) (λ z. absurd (steady.never_2 l z)))
    (λ z x. rw (called_runs c.steps l' ws' log' m' (steady.accepted l l' some z)) (h x))

pub another_limit_called : AnotherLimitCalled
another_limit_called c steady l l' ws more log m some =
    ended_lifts (AgainCall l') c steady l l' ws (ws ++ more) log log m m some
    (another_limit_call c.steps l l' ws more log m some)
