use borrow.Author.Rules.{rules}
use Rattle.registers.proofs.Field.{cast_in}
use Rattle.registers.proofs.controller.ClkConfig.set_clock_divider_selection.Goals as goal

pub returns : goal.returns
returns c = cast_in 19 1 12 _ (search rules) (search rules)
