use Rattle.std.proofs.lemmas.Result.{err_from_is_err_and}
use Rattle.access.proofs.Makes.{unread, changes}
use Rattle.access.proofs.block.RegisterBlock.modify.Goals as goal

pub returns-in_err-word : goal.returns-in_err-word
returns-in_err-word g c =
    let p = err_from_is_err_and c.from_residual.result c.from_residual.ensures.1 in rw (p.1, p.2) (λ f k. unread _ f c.in_err-word.ensures)

pub returns : goal.returns
returns g c = λ f k. changes _ f c.in_ok-word.ensures (k _ _ c.make.ensures) c.perform.ensures
