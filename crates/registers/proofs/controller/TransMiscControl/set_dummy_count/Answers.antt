use borrow.Author.Rules.{rules}
use Rattle.registers.proofs.Field.{shifted_in}
use Rattle.registers.proofs.controller.TransMiscControl.set_dummy_count.Goals as goal

pub returns : goal.returns
returns c = shifted_in 4 4 24 _ _ (search rules)
