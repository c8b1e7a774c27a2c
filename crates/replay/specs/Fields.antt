-- The numbers of a case by their places.
use Rattle.std.specs.Prelude.{Bool, false, cond, List, ℕ, ◌-◌, ltb, eqb, length, get_or}

-- at place i stands how many numbers follow
unfoldable pub ends_with_list : List ℕ → ℕ → Bool
ends_with_list f i = cond (ltb i (length f)) (eqb (get_or f i 0) (length f - i - 1)) false
