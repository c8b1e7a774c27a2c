use Rattle.std.proofs.Common.{◌∙◌, ◌≤◌, ◌-◌, ap, length, drop, List, ℕ, [], ◌∷◌, nat_eq, take_all, length-drop, arith}
use Rattle.std.specs.List.{starts_with}
use Rattle.cases.specs.Ends.{ends_at}
use Rattle.cases.proofs.ends_at.Goals as goal

pub returns : goal.returns
unfolding ends_at
returns c =
    let text = c.args.text.now in
    let long : length (drop c.args.i text) ≤ length text - c.args.i = omega (arith, length-drop c.args.i text) in
    c.starts_with.ensures.value
    ∙ ap (λ (xs : List ℕ). starts_with nat_eq xs (10 ∷ 46 ∷ 10 ∷ [])) (take_all _ (drop c.args.i text) long)
