use Rattle.std.proofs.Common.{◌≡◌, drop}
use Rattle.cases.specs.Number.{value_of}
use Rattle.cases.proofs.value.Given as goal

abbrev pub invariant-loop-b : goal.invariant-loop-b
invariant-loop-b l = value_of l.base l.value (drop l.b-index l.digits) ≡ value_of l.base 0 l.digits
