-- The bus where the opening is done, and none without.
use mathlib.Core.Path.{◌≡◌, refl, ap, ◌∙◌}
use mathlib.Core.Bool.{Bool, true, false, cond}
use mathlib.Core.List.{List}
use Prim.Native.Nat.{ℕ}
use Rattle.std.specs.Prelude.{Option, Some, None, option_map, unwrap_or}
use lib.Dec.{eqb}
use Rattle.access.specs.Of.{state_of, number_in}
use Rattle.opening.specs.declared.Opened as opening
use Rattle.opening.specs.declared.Opening.{Opening}
use Rattle.opening.specs.Call.{Opens, rate_of}
use Rattle.blocking.specs.declared.BlockingQspi.{BlockingQspi}
use Rattle.blocking.specs.Opened.{News, bus_of}

-- the bus is made at the rate that is given, if one is
made_at : (make : ℕ → BlockingQspi) (b : Bool) (hz : ℕ)
    → option_map make (cond b (Some hz) None) ≡ cond b (Some (make hz)) None
made_at make true hz = refl
made_at make false hz = refl

module _ (make : ℕ → BlockingQspi) (keeps : (hz : ℕ) → (make hz).sck_hz ≡ hz) where
  rate_kept : (given : Option ℕ) → unwrap_or (option_map (λ bus. bus.sck_hz) (option_map make given)) 0
      ≡ unwrap_or given 0
  rate_kept (Some hz) = keeps hz
  rate_kept None = refl

  pub handed_on :
      {o : Opening} {limit : ℕ} {answers log log' : List ℕ} {r : opening.Opened}
      → make (rate_of o) ≡ bus_of o limit
      → {bus : Option BlockingQspi} → bus ≡ option_map make r.sck_hz
      → Opens o limit answers log r log'
      → News o limit answers log (record { progress = r.progress; bus = bus }) log'
  handed_on {o = o} {log' = log'} {r = r} asked made d =
      let given = ap (λ q. option_map make q.sck_hz) d.given ∙ made_at make _ (rate_of o) in
      rw made (record {
        result = λ m. ap (λ hz. record { state = state_of r.progress log' m; rate = hz }) (rate_kept r.sck_hz)
            ∙ d.result m;
        bus = ap (λ b. record { progress = r.progress; bus = b })
            (given ∙ ap (λ x. cond (eqb (number_in r.progress) 0) (Some x) None) asked);
      })
