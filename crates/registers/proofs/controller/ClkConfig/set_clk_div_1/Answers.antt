use borrow.Author.Rules.{rules}
use Rattle.registers.proofs.Field.{shifted_in}
use Rattle.registers.proofs.controller.ClkConfig.set_clk_div_1.Goals as goal

pub returns : goal.returns
returns c = shifted_in 20 4 8 _ _ (search rules)
