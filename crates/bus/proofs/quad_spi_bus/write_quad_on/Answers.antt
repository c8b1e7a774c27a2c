use mathlib.Core.Path.{refl}
use Rattle.std.proofs.Common.{rules}
use Rattle.bus.specs.Calls.{steps_of, lengths_of, too_long, refusal}
use Rattle.bus.specs.Calls.Call.{write_quad}
use Rattle.bus.proofs.Entry.{fitting, stopped_from, goes_from}
use Rattle.bus.proofs.quad_spi_bus.write_quad_on.Goals as goal

pub returns-in-Err : goal.returns-in-Err
unfolding refusal too_long lengths_of steps_of
returns-in-Err c = stopped_from (write_quad _ _) _ refl c.requires _ _ c.in-Err.ensures c.ended_by.ensures

pub write_quad-ended-requires : goal.write_quad-ended-requires
write_quad-ended-requires c = fitting c.args.progress c.in-Ok.ensures

pub returns : goal.returns
unfolding refusal too_long lengths_of steps_of
returns c =
    goes_from (write_quad _ _) _ refl c.in-Ok.ensures c.resumed-block.ensures c.progress.ensures
    (search rules) c.write_quad-ended.ensures
