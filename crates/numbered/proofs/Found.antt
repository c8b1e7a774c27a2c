-- A work mode that is found and one that is none; a configuration likewise.
use mathlib.Core.Path.{◌≡◌, refl}
use mathlib.Core.Bool.{Bool}
use mathlib.Core.List.{List}
use Prim.Native.Nat.{ℕ}
use Rattle.config.specs.declared.config.WorkMode.{WorkMode}
use Rattle.std.specs.Prelude.{Option, Some, None}
use Rattle.config_numbers.specs.Limit.{no_mode}
use Rattle.access.specs.declared.progress.Progress.{Progress}
use Rattle.access.specs.Of.{refused}
use Rattle.config.specs.declared.error.QspiError.{QspiError}
use Rattle.config.specs.declared.error.QspiError.TheVariants.{Chain}
use Rattle.config.specs.Error.{error_number}
use Rattle.bus.specs.Calls.{Call}
use Rattle.bus.specs.Does.{Called}
use Rattle.opening.specs.declared.Opening.{Opening}
use Rattle.opening.specs.declared.Opened.{Opened}
use Rattle.opening.specs.Call.{Opens}
use Rattle.numbered.specs.Calls.{CalledMode, OpensFound}

module _ {found : Option WorkMode} {qpi : Bool} {limit : ℕ} {answers log : List ℕ} {p : Progress} where
  pub called_mode : {work : WorkMode} {log' : List ℕ} → found ≡ Some work
      → Called (Call.set_work_mode qpi work) limit answers log p log'
      → CalledMode found qpi limit answers log p log'
  called_mode e d = rw e (record { state = d.state })

  pub called_none : {error : QspiError} → found ≡ None → error_number error ≡ no_mode limit → p ≡ refused error
      → CalledMode found qpi limit answers log p log
  called_none e k q = rw (e, q) (record { state = λ m. rw (← k) refl })

module _ {found : Option Opening} {limit : ℕ} {answers log : List ℕ} where
  pub found_known : {opening : Opening} {r : Opened} {log' : List ℕ} → found ≡ Some opening
      → Opens opening limit answers log r log'
      → OpensFound found limit answers log r log'
  found_known e d = rw e (record { result = d.result })

  pub found_none : {p : Progress} → found ≡ None → p ≡ refused Chain
      → OpensFound found limit answers log (record { progress = p; sck_hz = None }) log
  found_none e q = rw (e, q) (record { result = λ m. refl })
