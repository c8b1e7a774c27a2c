use Rattle.std.proofs.Common.{◌∙◌, arith}
use Rattle.std.proofs.lemmas.Bool.Decides.{nat_tests}
use Rattle.cases.specs.Number.{number_of, is_hex}
use Rattle.cases.proofs.Laws.{number_hex}
use Rattle.cases.proofs.number.Goals as goal

pub returns-in-empty : goal.returns-in-empty
unfolding number_of is_hex
returns-in-empty c = grind (arith, nat_tests)

pub returns-in-48 : goal.returns-in-48
returns-in-48 c = c.value.ensures ∙ number_hex _ c.in-48.len_at_least (omega arith) (omega arith)

pub returns-in_default : goal.returns-in_default
unfolding number_of is_hex
returns-in_default c = grind (arith, nat_tests)
