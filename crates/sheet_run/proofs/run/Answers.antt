use Rattle.sheet_run.proofs.Sheets.{refused_13}
use Rattle.sheet_run.proofs.run.Goals as goal

pub returns-in-Err : goal.returns-in-Err
returns-in-Err c = refused_13 _ _ c.in-Err.ensures.value c.refused.ensures
