use Rattle.std.proofs.Common.{rules}
use Rattle.setups.proofs.transfers.format.Goals as goal

pub returns : goal.returns
returns c = c.modify.ensures _ (λ word made e. search rules)
