use mathlib.Core.Path.{sym}
use Rattle.chain.proofs.Entry.{refused_transacts}
use Rattle.chain.proofs.transact.Goals as goal

pub run-requires : goal.run-requires
run-requires c = rw c.in-Ok.ensures.limited (sym c.in-Ok.ensures.is)

pub returns-in-Ok : goal.returns-in-Ok
returns-in-Ok c = rw c.in-Ok.ensures.limited at c.run.ensures

pub returns-in-Err : goal.returns-in-Err
returns-in-Err c = rw c.refused.ensures (refused_transacts _ _ c.in-Err.ensures.is)
