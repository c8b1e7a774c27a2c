use borrow.Author.Rules.{rules}
use Rattle.registers.proofs.Field.{shifted_in}
use Rattle.registers.proofs.controller.TransMiscControl.enable_quad.Goals as goal

pub returns : goal.returns
returns c = shifted_in 2 1 29 _ 1 (search rules)
