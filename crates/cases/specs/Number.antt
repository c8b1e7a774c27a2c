-- The numbers of a case's line: decimal, or hexadecimal with 0x and in lower case.
use Rattle.std.specs.Prelude.{Bool, false, cond, List, [], ◌∷◌, ℕ, ◌+◌, ◌-◌, ◌*◌, ◌^◌, ltb, eqb, length, drop, get_or}
use Rattle.std.specs.Prelude.{Option, None, Some, option_and_then, unwrap_or, map, ◌==◌}
use Rattle.std.specs.List.{slice_split}

-- the value of a digit's byte, if it is one
unfoldable pub digit_of : ℕ → Option ℕ
digit_of b =
    cond (ltb b 48) None (cond (ltb b 58) (Some (b - 48))
    (cond (ltb b 97) None (cond (ltb b 103) (Some (b - 87)) None)))

-- a number below 2^32
unfoldable pub in_32 : ℕ → Option ℕ
in_32 n = cond (ltb n (2 ^ 32)) (Some n) None

-- the value with one digit more, if that is one of the base and the value stays below 2^32
unfoldable pub step : ℕ → ℕ → ℕ → Option ℕ
step base value b = option_and_then (λ d. cond (ltb d base) (in_32 (value * base + d)) None) (digit_of b)

-- the value that digits in a base go on to
unfoldable pub value_of : ℕ → ℕ → List ℕ → Option ℕ
value_of base value [] = Some value
value_of base value (b ∷ bs) = option_and_then (λ v. value_of base v bs) (step base value b)

-- 0x and at least one byte more
unfoldable pub is_hex : List ℕ → Bool
is_hex w = cond (ltb (length w) 3) false (cond (eqb (get_or w 0 0) 48) (eqb (get_or w 1 0) 120) false)

-- the number of a word, if it has one below 2^32
unfoldable pub number_of : List ℕ → Option ℕ
number_of w = cond (is_hex w) (value_of 16 0 (drop 2 w)) (cond (eqb (length w) 0) None (value_of 10 0 w))

-- the numbers of a case's line, after its name; 0 for a word that is none
abbrev pub numbers_of : List ℕ → List ℕ
numbers_of case = map (λ word. unwrap_or (number_of word) 0) (drop 1 (slice_split (λ b. b == 32) case))
