use Rattle.std.proofs.Common.{sym, ap, ◌∙◌, false, ℕ, Option}
use Rattle.std.specs.Option.{option_map_or}
use Rattle.verdicts.specs.Refused.{refusing}
use Rattle.verdicts.proofs.Ends.{end_other, end_counted, end_number}
use Rattle.verdicts.proofs.refusal_line.Goals as goal

pub returns-in_default : goal.returns-in_default
returns-in_default c = sym (end_other _ c.in_default.ensures.cases)

pub returns-in_default-strip_suffix : goal.returns-in_default-strip_suffix
returns-in_default-strip_suffix c = let prefix = c.in-Some.ensures.cases in
    sym (end_counted _ _ prefix.1 prefix.2 c.in_default-strip_suffix.ensures.cases)

pub returns-in-Some-number : goal.returns-in-Some-number
returns-in-Some-number c = let prefix = c.in-Some.ensures.cases in let suffix = c.in-Some-strip_suffix.ensures.cases in
    c.refuses.ensures
    ∙ ap (λ (n : Option ℕ). option_map_or refusing n false) (sym c.in-Some-number.is ∙ c.number.ensures)
    ∙ sym (end_number _ _ prefix.1 prefix.2 _ prefix.0 suffix.0 suffix.1 suffix.2)

pub returns-in-None : goal.returns-in-None
returns-in-None c = let prefix = c.in-Some.ensures.cases in let suffix = c.in-Some-strip_suffix.ensures.cases in
    ap (λ (n : Option ℕ). option_map_or refusing n false) (sym c.in-None.is ∙ c.number.ensures)
    ∙ sym (end_number _ _ prefix.1 prefix.2 _ prefix.0 suffix.0 suffix.1 suffix.2)
