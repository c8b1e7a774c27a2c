-- The cycles of the delay records that a case's transaction runs (document 02, request 2); tests/oracle/README.md says
-- what a case is.
use Rattle.std.specs.Prelude.{cond, List, [], ◌∷◌, ◌++◌, ℕ, eqb, get_or, take, drop, unwrap_or}
use Rattle.records.specs.declared.rules.Rules.{Rules}
use Rattle.records.specs.declared.rules.Rules.TheVariants.{Transaction}
use Rattle.records.specs.Rules.{cycles, counted}
use Rattle.records.specs.Check.{field, Checked, checked}

-- The numbers of its line: limit, log words, core rate, then how many words the records have and these, then how many
-- bytes the memory has.
abbrev pub rules_of : List ℕ → Rules
rules_of numbers = Transaction (get_or numbers 2 0)

abbrev pub words_of : List ℕ → List ℕ
words_of numbers = take (get_or numbers 3 0) (drop 4 numbers)

abbrev pub memory_of : List ℕ → ℕ
memory_of numbers = get_or (drop 4 numbers) (get_or numbers 3 0) 0

-- what the check finds of it
abbrev pub found_of : List ℕ → Checked
found_of numbers = checked (rules_of numbers) (memory_of numbers) (words_of numbers)

-- the core rate in the line of an opening: instance, ten settings, PLL and oscillator stand before it
abbrev pub opening_rate : List ℕ → ℕ
opening_rate numbers = get_or numbers 13 0

-- those of a record, as 32 bits hold them
unfoldable pub record_cycles : Rules → List ℕ → List ℕ
record_cycles rules r = cond (eqb (field r 0) 5) (unwrap_or (counted (cycles rules (field r 1))) 0 ∷ []) []

unfoldable pub chain_cycles : Rules → List (List ℕ) → List ℕ
chain_cycles rules [] = []
chain_cycles rules (r ∷ rs) = record_cycles rules r ++ chain_cycles rules rs
