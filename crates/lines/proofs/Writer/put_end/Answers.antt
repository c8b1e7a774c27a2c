use Rattle.lines.proofs.TextLaws.{puts_then}
use Rattle.lines.specs.Text.{end_line}
use Rattle.lines.proofs.Writer.put_end.Goals as goal

pub returns : goal.returns
unfolding end_line
returns c =
    puts_then c.put.ensures
    (puts_then (rw c.number.ensures at c.put_number.ensures.wrote)
    (puts_then c.put_number-2.ensures.wrote
    (puts_then c.put_number-3.ensures.wrote
    (puts_then c.put_number-4.ensures.wrote
    (puts_then c.put_number-5.ensures.wrote c.put-2.ensures)))))
