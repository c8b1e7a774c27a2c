use mathlib.Core.Path.{sym, ◌∙◌}
use Rattle.access.proofs.Goes.{makes_goes, goes_on}
use Rattle.chain.proofs.ByKind.{counted_as}
use Rattle.chain.proofs.record.run_record.Goals as goal

pub returns-in-Delay : goal.returns-in-Delay
returns-in-Delay c =
    let cycles = counted_as _ (sym c.cycles.ensures ∙ c.unwrap.ensures) in
    rw c.in-Delay.is (goes_on (makes_goes (rw cycles at c.perform.ensures)) _)
