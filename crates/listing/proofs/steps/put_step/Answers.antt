-- The word, two fields and the shares are put, and then the line feed.
use Rattle.text.specs.Laws.Writer.{puts_then}
use Rattle.listing.proofs.steps.put_step.Goals as goal

pub returns : goal.returns
returns c =
    let action = rw (c.from.ensures, c.action.ensures) at c.put_field.ensures in
    puts_then c.put_named.ensures (puts_then action (puts_then c.put_shares.ensures c.put.ensures))
