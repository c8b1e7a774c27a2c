-- The end of a case with its answer: a line with one full stop.
use Rattle.std.specs.Prelude.{Bool, cond, List, [], ◌∷◌, ℕ, zero, suc, ◌+◌, ◌-◌, length, drop, nat_eq, Option, None}
use Rattle.std.specs.Prelude.{Some}
use Rattle.std.specs.List.{starts_with}

-- a line end, a full stop, a line end
unfoldable pub ends_at : List ℕ → ℕ → Bool
ends_at text i = starts_with nat_eq (drop i text) (10 ∷ 46 ∷ 10 ∷ [])

-- the first such place of the k from i on, if there is one
unfoldable pub end_within : List ℕ → ℕ → ℕ → Option ℕ
end_within text zero i = None
end_within text (suc k) i = cond (ends_at text i) (Some i) (end_within text k (i + 1))

abbrev pub end_from : List ℕ → ℕ → Option ℕ
end_from text from = end_within text (length text - from) from
