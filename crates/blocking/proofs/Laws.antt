-- The rate of an opened bus is that of the opening.
use Rattle.std.proofs.Common.{◌≡◌, ℕ, cond, eqb, Bool, true, false, Some, None, refl, sym, ap, ◌∙◌, []}
use borrow.Author.Tests.{eqb-true}
use Rattle.access.specs.Of.{number_in}
use Rattle.opening.proofs.Laws.{opened_rate}
use Rattle.blocking.specs.declared.BlockingQspi.{BlockingQspi}
use Rattle.blocking.specs.Opened.{bus_of}
use Rattle.blocking.specs.Laws.{OpenedBusRate}

-- what is handed back only under a number of 0, is so
given_at_0 : (n : ℕ) (x y : BlockingQspi) → cond (eqb n 0) (Some x) None ≡ Some y → n ≡ 0
given_at_0 n x y = by (eqb n 0) refl
  where
    by : (b : Bool) → eqb n 0 ≡ b → cond b (Some x) None ≡ Some y → n ≡ 0
    by true e h = eqb-true _ _ e
    by false e h = cc

pub opened_bus_rate : OpenedBusRate
opened_bus_rate o limit answers log log' r given bus e =
    let handed = sym (ap (λ r. r.bus) given.bus) ∙ e in
    let number = given_at_0 (number_in r.progress) (bus_of o limit) bus handed in
    let opens = given.result [] in
    rw (← ap (λ s. s.rate) opens, e) at
    (opened_rate o limit answers log [] (sym (ap (λ s. s.state.number) opens) ∙ number))
