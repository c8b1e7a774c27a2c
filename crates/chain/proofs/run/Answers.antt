use mathlib.Core.Path.{refl}
use Rattle.std.proofs.Common.{rules}
use Rattle.chain.proofs.Entry.{fault_free, goes_transacts}
use Rattle.chain.proofs.run.Goals as goal

pub run_chain-ended-requires : goal.run_chain-ended-requires
run_chain-ended-requires c = (fault_free _ _ c.requires).1

pub returns : goal.returns
returns c =
    goes_transacts c.requires refl c.new-block.ensures c.run_chain-ended.ensures c.progress.ensures (search rules)
