-- The last number that is stored for a block is the label of its lowest region.
use Rattle.std.proofs.Common.{◌∙◌}
use Rattle.listing.specs.Laws.Labels.{labelled-on, labelled-all}
use Rattle.listing.proofs.labels.label_blocks.Goals as goal

pub loop-x-preserved : goal.loop-x-preserved
loop-x-preserved c =
    rw c.put.ensures
    (labelled-on c.args.regions.now c.args.list.now c.loop-x.labels c.loop-x.x c.loop-x-test.true c.loop-x.auto.x c.loop-x.invariant)

pub returns : goal.returns
returns c =
    labelled-all c.args.regions.now c.args.list.now c.loop-x.labels c.loop-x.x _ c.loop-x-test.false
    (c.loop-x.auto.labels ∙ c.fill.ensures.len) c.loop-x.invariant
