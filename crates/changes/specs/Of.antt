-- What a work mode's lines make of the word read at 038.
use Rattle.std.specs.Prelude.{ℕ}
use Rattle.model.specs.Field.{set_field}
use Rattle.changes.specs.declared.modes.Lines.{Lines}
use Rattle.changes.specs.declared.modes.Lines.TheVariants.{One, Two, Four, Qpi}

-- 038 bits 29 and 28, and bit 31 clear (document 02, request 1); for QPI bits 29 and 31 only
abbrev pub lined : Lines → ℕ → ℕ
lined One w = set_field 31 1 0 (set_field 28 1 0 (set_field 29 1 0 w))
lined Two w = set_field 31 1 0 (set_field 28 1 1 (set_field 29 1 0 w))
lined Four w = set_field 31 1 0 (set_field 28 1 0 (set_field 29 1 1 w))
lined Qpi w = set_field 31 1 1 (set_field 29 1 1 w)
