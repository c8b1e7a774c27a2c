use borrow.Author.Rules.{rules}
use Rattle.registers.proofs.Field.{shifted_in}
use Rattle.registers.proofs.controller.TransMiscControl.set_single_tx_count.Goals as goal

pub returns : goal.returns
returns c = shifted_in 8 24 0 _ _ (search rules)
