-- The limit of a wait, as document 01 names it, and what it decides of a number that is no mode.
use Rattle.std.specs.Prelude.{cond, ℕ, eqb}

-- the Rust's limit (document 01: limit): the unready poll of this number in one wait gives 1
abbrev pub default_limit : ℕ
default_limit = 100_000

-- 7 for limit 0, then 8, as for a field out of range
abbrev pub no_mode : ℕ → ℕ
no_mode limit = cond (eqb limit 0) 7 8
