use borrow.Author.Rules.{rules}
use Rattle.registers.proofs.Field.{shifted_in}
use Rattle.registers.proofs.cmu.NormalModuleClock.enable_bus_clk.Goals as goal

pub returns : goal.returns
returns c = shifted_in 19 1 12 _ 1 (search rules)
