-- The rules that the records of a chain go by: those of a sheet, and those of a transaction on a bus with a core rate
-- (document 01, "Chain and sheet"; document 02, request 2).
use Rattle.std.specs.Prelude.{ℕ, ◌/◌, cond, leb, Option, Some, None}
use Rattle.clock.specs.Dummies.{periods}
use Rattle.records.specs.declared.rules.Rules.{Rules}
use Rattle.records.specs.declared.rules.Rules.TheVariants.{Sheet, Transaction}

-- the highest kind that is taken
abbrev pub highest : Rules → ℕ
highest Sheet = 9
highest (Transaction core_hz) = 5

-- The cycles of a delay: document 01's formula, which a sheet keeps; else by request 2 the ceiling of ns × core rate ÷
-- 10^9, as the clock periods of a quad read's dummies.
unfoldable pub cycles : Rules → ℕ → ℕ
cycles Sheet ns = ns / 2
cycles (Transaction core_hz) ns = periods ns core_hz

-- as 32 bits hold them
abbrev pub counted : ℕ → Option ℕ
counted n = cond (leb n 0xFFFFFFFF) (Some n) None
