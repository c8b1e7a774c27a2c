use borrow.Author.Rules.{rules}
use Rattle.registers.proofs.Field.{shifted_in}
use Rattle.registers.proofs.cmu.NormalModuleClock.set_module_clk_div.Goals as goal

pub returns : goal.returns
returns c = shifted_in 27 5 0 _ _ (search rules)
