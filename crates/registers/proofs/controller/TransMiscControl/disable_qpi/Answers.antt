use borrow.Author.Rules.{rules}
use Rattle.registers.proofs.Field.{shifted_in}
use Rattle.registers.proofs.controller.TransMiscControl.disable_qpi.Goals as goal

pub returns : goal.returns
returns c = shifted_in 0 1 31 _ 0 (search rules)
