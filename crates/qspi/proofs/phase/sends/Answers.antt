use native.Mathlib.Omega.{arith}
use mathlib.Core.Path.{refl}
use Rattle.access.proofs.Primitive.{act_ten, act_entered}
use Rattle.qspi.proofs.Moving.{sending_begins, sending_on, sending_ends, all_sent}
use Rattle.qspi.proofs.phase.sends.Goals as goal

pub loop-byte-init : goal.loop-byte-init
loop-byte-init c = sending_begins _ _ _

pub returns-then-log-entries : goal.returns-then-log-entries
returns-then-log-entries c =
    sending_ends c.loop-byte.invariant c.loop-byte-test.true
    (λ ws taken t few. act_ten _ _ few refl _ _ c.if-log-entries.true)

pub log_entry-requires : goal.log_entry-requires
log_entry-requires c = omega (arith, c.if-log-entries.false)

pub loop-byte-preserved : goal.loop-byte-preserved
loop-byte-preserved c =
    sending_on c.loop-byte.invariant c.loop-byte-test.true
    (λ ws taken t few.
    act_entered _ _ few refl _ _ _ (omega (arith, c.if-log-entries.false)) c.log_entry.ensures c.head.ensures
    c.value.ensures)

pub returns : goal.returns
returns c = all_sent c.loop-byte.invariant c.loop-byte-test.false
