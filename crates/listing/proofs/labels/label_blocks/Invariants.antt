-- Each block has the label of its lowest region from x on.
use Rattle.listing.specs.Laws.Labels.{Labelled}
use Rattle.listing.proofs.labels.label_blocks.Given as goal

abbrev pub invariant-loop-x : goal.invariant-loop-x
invariant-loop-x l = Labelled l.regions l.list l.labels l.x
