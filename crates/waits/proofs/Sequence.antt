-- A wait for nothing else.
use mathlib.Core.Path.{sym, ◌∙◌}
use mathlib.Core.List.{List}
use Prim.Native.Nat.{ℕ}
use Rattle.std.specs.Prelude.{Result}
use Rattle.model.specs.Wait.{Cause}
use Rattle.model.specs.Steps.{wait_for}
use Rattle.model.specs.Steps.End.{done}
use Rattle.model.specs.Steps.Steps.{end}
use Rattle.model.proofs.Advance.{ended}
use Rattle.config.specs.declared.error.QspiError.{QspiError}
use Rattle.access.specs.declared.progress.Progress.{Progress}
use Rattle.access.specs.declared.block.RegisterBlock.{RegisterBlock}
use Rattle.access.specs.Of.{state_of}
use Rattle.access.specs.Does.{Does}
use Rattle.access.specs.Makes.{stopped}
use Rattle.access.specs.Goes.{Goes}
use Rattle.waits.specs.Does.{Waits, Waited}

pub waits_does : {c : Cause} {limit : ℕ} {answers : List ℕ} {p r : Progress} {log log' : List ℕ} {count : ℕ}
    → Waits c limit answers p log r log' count → Does (wait_for c) limit answers p log r log'
unfolding wait_for
waits_does {limit = limit} {answers = answers} {r = r} {log' = log'} w =
    record { sound = w.sound; state = λ m. sym (w.state m (λ n. end done) ∙ ended limit answers (state_of r log' m)) }

pub waited_goes : {c : Cause} {b r : RegisterBlock} {a : Result ℕ QspiError} → Waited c b r a
    → Goes (wait_for c) b r (stopped a)
waited_goes w = record { lent = w.lent; does = waits_does w.waits }
