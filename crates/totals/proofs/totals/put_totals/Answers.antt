-- Both lists are counted, the lines of the labels are put, and then the last.
use Rattle.std.proofs.Common.{arith}
use Rattle.text.specs.Laws.Writer.{puts_then, puts_same}
use Rattle.totals.specs.Laws.Counts.{counted-lines}
use Rattle.totals.proofs.totals.put_totals.Goals as goal

pub returns : goal.returns
returns c =
    puts_same
    (counted-lines _ _ _ _ (λ i. omega (arith, c.type_inv.regions i)) c.count_labels-of_regions.ensures
    c.count_labels-of_blocks.ensures)
    (puts_then c.put_labels.ensures c.put_all.ensures)
