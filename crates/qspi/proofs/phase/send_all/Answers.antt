use mathlib.Core.Path.{refl}
use Rattle.qspi.proofs.phase.send_all.Goals as goal

pub returns : goal.returns
returns c =
    let d = c.sends-entries.ensures in
    record {
      lent = record { log = refl; answers = refl; limit = refl };
      tally = refl;
      grows = d.grows;
      works = λ t few. d.works _ _ t few;
    }
