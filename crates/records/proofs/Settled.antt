-- The settled instances, computed.
use Rattle.std.proofs.Common.{refl}
use Rattle.records.specs.Rules.{cycles}
use Rattle.records.specs.Check.{record_at, out_of_range, extents_fault, windows_fault, record_fault, records_in}
use Rattle.records.specs.Check.{along, checked}
use Rattle.records.specs.Settled.{Settled}

pub settled : Settled
unfolding cycles record_at out_of_range extents_fault windows_fault record_fault records_in along checked
settled = refl
