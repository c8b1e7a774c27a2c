use Rattle.access.proofs.Goes.{goes_on}
use Rattle.windows.specs.Windows.{write_window}
use Rattle.windows.proofs.Parts.{short, looks_goes}
use Rattle.windows.proofs.write.Goals as goal

pub tx_phase-requires : goal.tx_phase-requires
tx_phase-requires c = short c.args.w.start c.args.w.len c.args.memory.now c.window.ensures c.requires

pub returns : goal.returns
unfolding write_window
returns c = looks_goes _ (goes_on (rw c.window.ensures at c.tx_phase.ensures) _)
