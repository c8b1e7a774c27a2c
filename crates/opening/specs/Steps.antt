-- The steps of an opening and of a release (document 01, "Steps").
use Rattle.std.specs.Prelude.{ℕ, ◌+◌, min}
use Rattle.model.specs.Field.{set_field}
use Rattle.model.specs.Steps.{Steps, then, change}
use Rattle.config.specs.declared.config.QspiConfig.{QspiConfig}
use Rattle.clock.specs.declared.DividerSelect.{DividerSelect}
use Rattle.configure.specs.Steps.{enable_module_clock, register_steps, fifo_steps}

-- of an instance: its module divider and its divider, the rate that they give, the oscillator, the configuration
unfoldable pub opening_steps : ℕ → ℕ → DividerSelect → ℕ → ℕ → QspiConfig → Steps
opening_steps instance div divider rate oscillator config =
    then (enable_module_clock instance div) (then (register_steps config divider rate oscillator) fifo_steps)

-- one clock-word change clearing bits 8, 12, 13; instances above 3 use 1003
unfoldable pub release_steps : ℕ → Steps
release_steps instance = change (0x1000 + min instance 3) (λ w. set_field 13 1 0 (set_field 12 1 0 (set_field 8 1 0 w)))
