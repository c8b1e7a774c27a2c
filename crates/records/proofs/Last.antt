-- The cycles of a delay outside a sheet last long enough, and no longer than need be.
use Rattle.std.proofs.Common.{◌*◌, arith}
use Rattle.records.specs.Rules.{cycles}
use Rattle.records.specs.Laws.{DelaysLast}

pub delays_last : DelaysLast
unfolding cycles
delays_last core_hz ns = let p = ns * core_hz in (omega arith, λ i. omega (arith, i))
