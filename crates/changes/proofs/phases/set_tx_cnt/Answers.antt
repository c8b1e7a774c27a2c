use Rattle.std.proofs.Common.{rules}
use Rattle.changes.proofs.phases.set_tx_cnt.Goals as goal

pub returns : goal.returns
returns c = c.modify.ensures _ (λ word made e. search rules)
