-- The steps of a record, by its kind: those of the record that the code makes of it.
use mathlib.Core.Path.{◌≡◌, refl, sym, ap}
use mathlib.Core.Bool.{Bool, true, false, cond}
use mathlib.Core.List.{List}
use Prim.Native.Nat.{ℕ, zero, suc}
use lib.Dec.{leb, ltb}
use lib.ListN.{get_or}
use borrow.Author.Tests.{ltb-false}
use Rattle.std.specs.Prelude.{Option, Some, None, option_map, Ok}
use Rattle.std.proofs.lemmas.Option.{none-some, same_Some}
use Rattle.model.specs.Steps.{Steps}
use Rattle.model.specs.Steps.End.{done}
use Rattle.model.specs.Steps.Steps.{end}
use Rattle.config.specs.declared.config.WorkMode.{WorkMode}
use Rattle.config.specs.Config.{work_mode_of}
use Rattle.access.specs.declared.progress.Progress.{Progress}
use Rattle.access.specs.Does.{Runs}
use Rattle.records.specs.declared.record.Record.{Record}
use Rattle.records.specs.declared.record.Record.TheVariants.{Delay, Mode}
use Rattle.records.specs.declared.rules.Rules.{Rules}
use Rattle.records.specs.Rules.{cycles, counted}
use Rattle.records.specs.Check.{field, too_many, extents_fault}
use Rattle.records.specs.Record.{records_of, record_of, windows_of}
use Rattle.records.proofs.KindLaws.{AllIn, all_in}
use Rattle.chain.specs.declared.request.Settings.{Settings}
use Rattle.chain.specs.Chain.{mode_steps, kind_steps, record_steps}
use Rattle.chain.specs.Of.{steps_of, Fits}

-- Cycles that 32 bits hold are counted as they are.
pub counted_as : (n : ℕ) {k : ℕ} → counted n ≡ Some k → k ≡ n
counted_as n e = by (leb n 0xFFFFFFFF) e
  where
    by : (b : Bool) {k : ℕ} → cond b (Some n) None ≡ Some k → k ≡ n
    by true h = sym (same_Some _ _ h)
    by false h = absurd (none-some _ h)

-- A record of the kind k runs that kind's steps.
pub by_kind : (settings : Settings) (r : List ℕ) (k : ℕ) {limit : ℕ} {answers : List ℕ} {p q : Progress}
    {log log' m m' : List ℕ}
    → field r 0 ≡ k
    → Runs (get_or (kind_steps settings (field r)) k (end done)) limit answers p log m q log' m'
    → Runs (record_steps settings r) limit answers p log m q log' m'
unfolding record_steps
by_kind settings r k e d = rw e d

module _ (settings : Settings) where
  -- if a record is made, it has these steps
  abbrev Has : Option Record → Steps → Type 0
  Has o s = (r : Record) → o ≡ Some r → s ≡ steps_of settings r

  has : (t : Record) → Has (Some t) (steps_of settings t)
  has t r e = ap (steps_of settings) (same_Some _ _ e)

  none_has : (s : Steps) → Has None s
  none_has s r e = absurd (none-some r e)

  mode_has : (o : Option WorkMode) → Has (option_map Mode o) (mode_steps settings.qpi o)
  mode_has (Some mode) = has (Mode mode)
  mode_has None = none_has _

  quad_has : (b : Bool) (t : Record) → Has (cond b (Some t) None) (steps_of settings t)
  quad_has true t = has t
  quad_has false t = none_has _

  kind_has : (f : ℕ → ℕ) (k : ℕ) → Has (get_or (records_of f) k None) (get_or (kind_steps settings f) k (end done))
  kind_has f zero = none_has _
  kind_has f (suc zero) = has _
  kind_has f (suc (suc zero)) = has _
  kind_has f (suc (suc (suc zero))) = has _
  kind_has f (suc (suc (suc (suc zero)))) = has _
  kind_has f (suc (suc (suc (suc (suc zero))))) = has _
  kind_has f (suc (suc (suc (suc (suc (suc zero)))))) = has _
  kind_has f (suc (suc (suc (suc (suc (suc (suc zero))))))) = mode_has (work_mode_of (f 1))
  kind_has f (suc (suc (suc (suc (suc (suc (suc (suc zero)))))))) = quad_has (leb (f 4) 255) _
  kind_has f (suc (suc (suc (suc (suc (suc (suc (suc (suc zero))))))))) = has _
  kind_has f (suc (suc (suc (suc (suc (suc (suc (suc (suc (suc n)))))))))) = none_has _

pub stated_steps : (settings : Settings) (words : List ℕ) (r : Record) → record_of words ≡ Some r
    → record_steps settings words ≡ steps_of settings r
unfolding record_steps record_of
stated_steps settings words r e = kind_has settings (field words) (field words 0) r e

module _ (rules : Rules) (memory : ℕ) where
  -- if a record is made, of not too many cycles, its windows fit the memory that they lie in
  abbrev In : Bool → Option Record → Type 0
  In many o = (r : Record) → o ≡ Some r → many ≡ false → AllIn memory (windows_of r) → Fits rules memory r

  inside : {many : Bool} (t : Record) → (AllIn memory (windows_of t) → Fits rules memory t) → In many (Some t)
  inside t h r e b = rw (← same_Some _ _ e) h

  none_in : {many : Bool} → In many None
  none_in r e = absurd (none-some r e)

  delay_in : (ns : ℕ) → In (ltb 0xFFFFFFFF (cycles rules ns)) (Some (Delay ns))
  delay_in ns r e b = rw (← same_Some _ _ e) (λ a. ltb-false 0xFFFFFFFF (cycles rules ns) b)

  mode_in : {many : Bool} (o : Option WorkMode) → In many (option_map Mode o)
  mode_in (Some mode) = inside (Mode mode) (λ a. tt)
  mode_in None = none_in

  quad_in : {many : Bool} (b : Bool) (t : Record) → (AllIn memory (windows_of t) → Fits rules memory t)
      → In many (cond b (Some t) None)
  quad_in true t h = inside t h
  quad_in false t h = none_in

  kind_in : (f : ℕ → ℕ) (k : ℕ) → In (too_many rules k (f 1)) (get_or (records_of f) k None)
  kind_in f zero = none_in
  kind_in f (suc zero) = inside _ (λ a. (a.0.0, a.0.1 refl))
  kind_in f (suc (suc zero)) = inside _ (λ a. (a.0.0, a.0.1 refl))
  kind_in f (suc (suc (suc zero))) = inside _ (λ a. ((a.0.0, a.0.1 refl), (a.1.0.0, a.1.0.1 refl)))
  kind_in f (suc (suc (suc (suc zero)))) = inside _ (λ a. a.0.0)
  kind_in f (suc (suc (suc (suc (suc zero))))) = delay_in (f 1)
  kind_in f (suc (suc (suc (suc (suc (suc zero)))))) = inside _ (λ a. tt)
  kind_in f (suc (suc (suc (suc (suc (suc (suc zero))))))) = mode_in (work_mode_of (f 1))
  kind_in f (suc (suc (suc (suc (suc (suc (suc (suc zero)))))))) =
      quad_in (leb (f 4) 255) _ (λ a. (a.0.0, (a.1.0.0, a.1.0.1 refl)))
  kind_in f (suc (suc (suc (suc (suc (suc (suc (suc (suc zero))))))))) =
      inside _ (λ a. ((a.0.0, a.0.1 refl), (a.1.0.0, a.1.0.1 refl)))
  kind_in f (suc (suc (suc (suc (suc (suc (suc (suc (suc (suc n)))))))))) = none_in

  pub stated_fits : (words : List ℕ) (r : Record) → record_of words ≡ Some r
      → too_many rules (field words 0) (field words 1) ≡ false → extents_fault memory (windows_of r) ≡ Ok tt
      → Fits rules memory r
  unfolding record_of
  stated_fits words r e b h = kind_in (field words) (field words 0) r e b (all_in memory (windows_of r) h)
