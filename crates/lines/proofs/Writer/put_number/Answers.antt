use borrow.Author.Rules.{rules}
use Rattle.lines.proofs.TextLaws.{puts_then, puts_as, numbered, fewest_twenty}
use Rattle.lines.proofs.Writer.put_number.Goals as goal

pub returns-clause-wrote : goal.returns-clause-wrote
returns-clause-wrote c =
    let d = c.decimal-k.ensures in
    let most = fewest_twenty _ _ d.len (search rules) in
    puts_as (numbered _ _ _ d.len most d.digits) (puts_then c.put.ensures c.put-2.ensures)
