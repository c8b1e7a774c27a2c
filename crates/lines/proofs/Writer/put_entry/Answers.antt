use Rattle.lines.proofs.TextLaws.{puts_then}
use Rattle.lines.specs.Text.{entry_line}
use Rattle.lines.proofs.Writer.put_entry.Goals as goal

pub returns : goal.returns
unfolding entry_line
returns c =
    rw (← c.letter.ensures)
    (puts_then c.put.ensures
    (puts_then c.put_hex.ensures
    (puts_then c.put-2.ensures
    (puts_then c.put_hex-2.ensures c.put-3.ensures))))
