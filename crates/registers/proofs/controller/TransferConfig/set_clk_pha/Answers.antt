use borrow.Author.Rules.{rules}
use Rattle.registers.proofs.Field.{cast_in}
use Rattle.registers.proofs.controller.TransferConfig.set_clk_pha.Goals as goal

pub returns : goal.returns
returns c = cast_in 31 1 0 _ (search rules) (search rules)
