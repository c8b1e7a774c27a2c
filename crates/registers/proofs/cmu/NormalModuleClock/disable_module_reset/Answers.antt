use borrow.Author.Rules.{rules}
use Rattle.registers.proofs.Field.{shifted_in}
use Rattle.registers.proofs.cmu.NormalModuleClock.disable_module_reset.Goals as goal

pub returns : goal.returns
returns c = shifted_in 18 1 13 _ 1 (search rules)
