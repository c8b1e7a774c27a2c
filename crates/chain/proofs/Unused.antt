-- A record's steps look at no field that its kind does not use, by cases over the kinds.
use mathlib.Core.Path.{◌≡◌, refl, ap, ◌∙◌}
use mathlib.Core.List.{List}
use Prim.Native.Nat.{ℕ, zero, suc}
use lib.ListN.{get_or}
use Rattle.model.specs.Steps.{Steps}
use Rattle.model.specs.Steps.End.{done}
use Rattle.model.specs.Steps.Steps.{end}
use Rattle.records.specs.Kinds.{kind_of}
use Rattle.records.specs.Check.{field}
use Rattle.records.specs.Laws.{Same}
use Rattle.chain.specs.declared.request.Settings.{Settings}
use Rattle.chain.specs.Chain.{kind_steps, record_steps}
use Rattle.chain.specs.Laws.{UnusedFieldsRun}

module _ (settings : Settings) where
  abbrev steps_at : ℕ → List ℕ → Steps
  steps_at k r = get_or (kind_steps settings (field r)) k (end done)

  looked_at : (r s : List ℕ) (k : ℕ) → Same (kind_of k).used r s → steps_at k r ≡ steps_at k s
  looked_at r s zero h = refl
  looked_at r s (suc zero) h = cc
  looked_at r s (suc (suc zero)) h = cc
  looked_at r s (suc (suc (suc zero))) h = cc
  looked_at r s (suc (suc (suc (suc zero)))) h = cc
  looked_at r s (suc (suc (suc (suc (suc zero))))) h = cc
  looked_at r s (suc (suc (suc (suc (suc (suc zero)))))) h = refl
  looked_at r s (suc (suc (suc (suc (suc (suc (suc zero))))))) h = cc
  looked_at r s (suc (suc (suc (suc (suc (suc (suc (suc zero)))))))) h = cc
  looked_at r s (suc (suc (suc (suc (suc (suc (suc (suc (suc zero))))))))) h = cc
  looked_at r s (suc (suc (suc (suc (suc (suc (suc (suc (suc (suc n)))))))))) h = refl

pub unused_fields_run : UnusedFieldsRun
unfolding record_steps
unused_fields_run r s a settings = looked_at settings r s (field r 0) a.used ∙ ap (λ k. steps_at settings k s) a.kind
