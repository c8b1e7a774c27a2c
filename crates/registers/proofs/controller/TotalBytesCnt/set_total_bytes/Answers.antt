use borrow.Author.Rules.{rules}
use Rattle.registers.proofs.Field.{shifted_in}
use Rattle.registers.proofs.controller.TotalBytesCnt.set_total_bytes.Goals as goal

pub returns : goal.returns
returns c = shifted_in 8 24 0 _ _ (search rules)
