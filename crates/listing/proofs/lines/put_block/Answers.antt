-- The word and three fields are put, and then the line feed.
use Rattle.text.specs.Laws.Writer.{puts_then}
use Rattle.listing.proofs.lines.put_block.Goals as goal

pub returns : goal.returns
returns c =
    rw (← c.from.ensures)
    (puts_then c.put_named.ensures (puts_then c.put_field.ensures (puts_then c.put_field-2.ensures c.put.ensures)))
