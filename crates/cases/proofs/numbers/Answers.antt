use Rattle.std.proofs.Common.{rules, tests, ◌≡◌, ◌==◌, List, Option}
use Rattle.std.proofs.lemmas.Iterator.{YieldsList, items_from_collect, YieldsList-from_map}
use Rattle.std.proofs.lemmas.Iterator.Adapters.{YieldsList-from_skip}
use Rattle.std.proofs.lemmas.Iterator.Splits.{YieldsList-from_slice_split}
use Rattle.cases.proofs.numbers.Goals as goal

-- what yields the same, told of an equal state
of_equal : {S A B : Type 0} {steps : S → Option A → S → Type 0} {v : A → B} {s t : S} {ys : List B} → s ≡ t
    → YieldsList steps v t ys → YieldsList steps v s ys
of_equal e y = rw e y

pub returns : goal.returns
returns c =
    items_from_collect {s = c.map.result} _ c.collect.ensures.ran
    (YieldsList-from_map _ _
    (of_equal c.map.ensures.source
    (YieldsList-from_skip 1
    (of_equal c.skip.ensures.source
    (YieldsList-from_slice_split _ (λ b. b == 32) c.args.case.now c.split.ensures.rest c.split.ensures.done
    c.split.ensures.closure (λ x b q k. search (rules, tests))))
    c.skip.ensures.count))
    c.map.ensures.closure (λ x r q k. search (rules, tests)))
