use mathlib.Core.Path.{refl}
use Rattle.std.proofs.Common.{rules}
use Rattle.bus.specs.Calls.{steps_of, lengths_of, too_long, refusal}
use Rattle.bus.specs.Calls.Call.{read}
use Rattle.bus.proofs.Entry.{fitting, stopped_on_from, goes_on_from}
use Rattle.bus.proofs.spi_bus.read_on.Goals as goal

pub returns-in-Err : goal.returns-in-Err
unfolding refusal too_long lengths_of steps_of
returns-in-Err c = stopped_on_from (read _) _ refl c.requires _ _ c.in-Err.ensures c.ended_by.ensures

pub rx_phase-ended-requires : goal.rx_phase-ended-requires
rx_phase-ended-requires c = (fitting c.args.progress c.in-Ok.ensures).0

pub returns : goal.returns
unfolding refusal too_long lengths_of steps_of
returns c =
    goes_on_from (read _) _ refl c.in-Ok.ensures c.resumed-block.ensures c.progress.ensures
    (search rules) c.rx_phase-ended.ensures
