use Rattle.std.proofs.Common.{rules, refl}
use Rattle.opening.proofs.Call.{accepted, refused_opens, runs_opens}
use Rattle.opening.proofs.open.Goals as goal

pub returns-in-Err : goal.returns-in-Err
returns-in-Err c = refused_opens _ _ _ _ c.in-Err.ensures c.refused-in-Err.ensures

pub new-ended-requires : goal.new-ended-requires
new-ended-requires c = accepted c.args.opening _ c.in-Ok.ensures.is refl

pub returns : goal.returns
returns c =
    runs_opens c.new-block.ensures c.new-ended.ensures c.progress.ensures (search rules) _ _ c.in-Ok.ensures
    c.clamp_target.ensures c.select_clock-choice.ensures c.rate-sck_hz.ensures refl c.with_rate.ensures
