-- A test of all windows of a record, by a row of the code's table.
use Rattle.std.proofs.Common.{◌≡◌, ℕ, Bool, List, [], ◌∷◌, map, ◌||◌, refl, ap, sym, ◌∙◌}
use Rattle.std.specs.List.{list_any}
use Rattle.records.specs.Kinds.{Kind, kind_of, row}
use Rattle.records.specs.Check.{field, extent_in, extents_of}
use Rattle.records.specs.declared.extent.Extent.{Extent}
use Rattle.records.specs.declared.kinds.Kind as code

list_any-map : {A B : Type 0} (p : B → Bool) (f : A → B) (xs : List A)
    → list_any p (map f xs) ≡ list_any (λ x. p (f x)) xs
list_any-map p f [] = refl
list_any-map p f (x ∷ xs) = ap (λ b. p (f x) || b) (list_any-map p f xs)

pub any_extent : (p : Extent → Bool) (r : List ℕ) (k : code.Kind) → row k ≡ kind_of (field r 0)
    → list_any (λ w. p (extent_in r w)) k.windows.now ≡ list_any p (extents_of r)
any_extent p r k e =
    sym (list_any-map p (extent_in r) k.windows.now) ∙ ap (λ (t : Kind). list_any p (map (extent_in r) t.windows)) e
