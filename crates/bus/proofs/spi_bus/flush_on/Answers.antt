use mathlib.Core.Path.{refl}
use Rattle.std.proofs.Common.{rules}
use Rattle.bus.specs.Calls.{steps_of, lengths_of, too_long, refusal}
use Rattle.bus.specs.Calls.Call.{flush}
use Rattle.bus.proofs.Entry.{stopped_from, goes_from}
use Rattle.bus.proofs.spi_bus.flush_on.Goals as goal

pub returns-in-Err : goal.returns-in-Err
unfolding refusal too_long lengths_of steps_of
returns-in-Err c = stopped_from (flush) _ refl c.requires _ _ c.in-Err.ensures c.ended_by.ensures

pub returns : goal.returns
unfolding refusal too_long lengths_of steps_of
returns c =
    goes_from (flush) _ refl c.in-Ok.ensures c.resumed-block.ensures c.progress.ensures
    (search rules) c.wait_transfer_done-ended.ensures
