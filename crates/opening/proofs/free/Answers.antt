use Rattle.std.proofs.Common.{rules, refl}
use Rattle.opening.proofs.Call.{releases_begun}
use Rattle.opening.proofs.free.Goals as goal

pub returns : goal.returns
returns c =
    releases_begun c.new-block.ensures c.release-ended.ensures c.progress.ensures (search rules) _ refl
