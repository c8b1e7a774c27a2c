use native.Mathlib.Omega.{arith}
use mathlib.Core.Path.{refl}
use Rattle.access.proofs.Primitive.{act_ten, act_entered}
use Rattle.access.proofs.block.RegisterBlock.perform.Goals as goal

pub returns-then-self-entries : goal.returns-then-self-entries
returns-then-self-entries c =
    record {
      lent = record { log = refl; answers = refl; limit = refl };
      tally = refl;
      grows = omega arith;
      works = λ t few. act_ten _ _ few refl _ _ c.if-self-entries.true;
    }

pub log_entry-requires : goal.log_entry-requires
log_entry-requires c = omega (arith, c.if-self-entries.false)

pub returns : goal.returns
returns c =
    record {
      lent = record { log = refl; answers = refl; limit = refl };
      tally = refl;
      grows = omega arith;
      works = λ t few. act_entered _ _ few refl _ _ _ (omega (arith, c.if-self-entries.false)) c.log_entry.ensures
          c.head.ensures c.value.ensures;
    }
