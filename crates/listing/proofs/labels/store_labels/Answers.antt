-- The label of a region is that of its location, which a byte names.
use Rattle.std.proofs.Common.{arith, length}
use Rattle.partition.specs.Passed.{listed}
use Rattle.partition.specs.Instances.{graph}
use Rattle.partition.specs.Laws.View.{label-listed, entry-small}
use Rattle.listing.specs.Laws.Labels.{filled_on, filled-all}
use Rattle.listing.proofs.labels.store_labels.Goals as goal

pub loop-x-preserved : goal.loop-x-preserved
loop-x-preserved c = λ m is.
    let x = c.loop-x.x in
    let entries = c.args.entries.now in
    let n = length c.args.labels.now in
    let label = label-listed m entries n x 256 c.loop-x-test.true c.requires
    (entry-small entries (λ k. omega (arith, c.type_inv.entries k)) x).0 in
    filled_on (λ x. (graph m (listed entries n)).label x) c.loop-x.labels x _ (omega (arith, c.loop-x-test.true, c.loop-x.auto.labels))
    (rw (c.at.ensures, c.from.ensures, c.entry_at-location.ensures, is) label) (c.loop-x.invariant m is)

pub returns : goal.returns
returns c = λ m is.
    let n = length c.args.labels.now in
    filled-all (λ x. (graph m (listed c.args.entries.now n)).label x) c.loop-x.labels c.loop-x.x n c.loop-x.auto.labels
    c.loop-x-test.false c.loop-x.auto.x-end (c.loop-x.invariant m is)
