use mathlib.Core.Path.{refl}
use Rattle.std.proofs.Common.{rules}
use Rattle.bus.specs.Calls.{steps_of, lengths_of, too_long, refusal}
use Rattle.bus.specs.Calls.Call.{transfer_in_place}
use Rattle.bus.proofs.Entry.{stopped_on_from, goes_on_from}
use Rattle.bus.proofs.spi_bus.transfer_in_place_on.Goals as goal

pub returns-in-Err : goal.returns-in-Err
unfolding refusal too_long lengths_of steps_of
returns-in-Err c = stopped_on_from (transfer_in_place _) _ refl c.requires _ _ c.in-Err.ensures c.ended_by.ensures

pub returns : goal.returns
unfolding refusal too_long lengths_of steps_of
returns c =
    goes_on_from (transfer_in_place _) _ refl c.in-Ok.ensures c.resumed-block.ensures c.progress.ensures
    (search rules) c.transfer_in_place-ended.ensures
