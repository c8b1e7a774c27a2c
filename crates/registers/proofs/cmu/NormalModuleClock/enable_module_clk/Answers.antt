use borrow.Author.Rules.{rules}
use Rattle.registers.proofs.Field.{shifted_in}
use Rattle.registers.proofs.cmu.NormalModuleClock.enable_module_clk.Goals as goal

pub returns : goal.returns
returns c = shifted_in 23 1 8 _ 1 (search rules)
