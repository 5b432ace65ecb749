-- Three words with their counts are put, and then the line feed.
use Rattle.text.specs.Laws.Writer.{puts_then}
use Rattle.listing.proofs.lines.put_first.Goals as goal

pub returns : goal.returns
returns c = puts_then c.put_named.ensures (puts_then c.put_named-2.ensures (puts_then c.put_named-3.ensures c.put.ensures))
