use mathlib.Core.Path.{refl}
use Rattle.std.proofs.Common.{rules}
use Rattle.bus.specs.Calls.{steps_of, lengths_of, too_long, refusal}
use Rattle.bus.specs.Calls.Call.{read_quad}
use Rattle.bus.proofs.Entry.{fitting, stopped_on_from, goes_on_from}
use Rattle.bus.proofs.quad_spi_bus.read_quad_on.Goals as goal

pub returns-in-Err : goal.returns-in-Err
unfolding refusal too_long lengths_of steps_of
returns-in-Err c = stopped_on_from (read_quad _ _ _ _ _) _ refl c.requires _ _ c.in-Err.ensures c.ended_by.ensures

pub read_quad-ended-requires : goal.read_quad-ended-requires
read_quad-ended-requires c = (fitting c.args.progress c.in-Ok.ensures).0

pub returns : goal.returns
unfolding refusal too_long lengths_of steps_of
returns c =
    goes_on_from (read_quad _ _ _ _ _) _ refl c.in-Ok.ensures c.resumed-block.ensures c.progress.ensures
    (search rules) c.read_quad-ended.ensures
