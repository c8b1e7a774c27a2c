-- The answer that is due to a transaction: the oracle's, with the cycles that request 2 asks for in its delay records,
-- or the refusal by 14.
use Rattle.std.specs.Prelude.{cond, not, ◌&&◌, List, [], ◌∷◌, ◌++◌, ℕ, ◌+◌, ◌-◌, ◌*◌, ◌/◌, ◌%◌, ◌^◌, ltb, nat_le}
use Rattle.std.specs.Prelude.{nat_eq, eqb, Bool, Ok, Err, length, map, drop, get_or, count_by, codes}
use Rattle.std.specs.List.{starts_with, range_with_len}
use Rattle.config.specs.Error.{error_number}
use Rattle.records.specs.declared.rules.Rules.{Rules}
use Rattle.records.specs.Check.{Checked}
use Rattle.core_delays.specs.Delays.{rules_of, found_of, chain_cycles}

-- A delay record's line begins at s: a delay that does not stand directly behind a word for 018, as a phase's does.
-- Lines have sixteen bytes.
unfoldable pub delay_line : List ℕ → ℕ → Bool
delay_line text s =
    starts_with nat_eq (drop s text) (codes "d 0000 ")
    && not (nat_le 16 s && starts_with nat_eq (drop (s - 16) text) (codes "w 0018 "))

-- how many are among the first lines
abbrev pub delays_before : List ℕ → ℕ → ℕ
delays_before text lines = count_by (λ k. delay_line text (16 * k)) (range_with_len 0 lines)

-- the digit at place j of a word, from the highest at place 0
unfoldable pub digit : ℕ → ℕ → ℕ
digit word j = let d = word / 2 ^ (28 - 4 * j) % 16 in cond (ltb d 10) (48 + d) (87 + d)

-- the byte at i: of a delay record's line the value's digits are those of its cycles
unfoldable pub due_byte : List ℕ → List ℕ → ℕ → ℕ
due_byte cycles text i =
    let at = i % 16 in
    cond (nat_le 7 at && (ltb at 15 && delay_line text (i - at)))
    (digit (get_or cycles (delays_before text (i / 16)) 0) (at - 7)) (get_or text i 0)

abbrev pub with_cycles : List ℕ → List ℕ → List ℕ
with_cycles cycles text = map (due_byte cycles text) (range_with_len 0 (length text))

abbrev pub refused_14 : List ℕ
refused_14 = codes "end 14 0 0 0 0" ++ 10 ∷ []

-- what is due where this was found, by these rules
abbrev pub due_by : Rules → Checked → List ℕ → List ℕ
due_by rules (Err f) oracle = cond (eqb (error_number f.error) 14) refused_14 oracle
due_by rules (Ok rs) oracle = with_cycles (chain_cycles rules rs) oracle

-- the same by the numbers of the case's line
unfoldable pub due : List ℕ → List ℕ → List ℕ
due numbers oracle = due_by (rules_of numbers) (found_of numbers) oracle
