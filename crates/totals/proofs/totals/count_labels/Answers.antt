-- A label that is a byte has its place among the counts, and no count is above how many labels were met.
use Rattle.std.proofs.Common.{◌<◌, arith, length-take-le, get_or}
use Rattle.totals.specs.Laws.Counts.{counts-none, counts-on, counts-most}
use Rattle.totals.proofs.totals.count_labels.Goals as goal

pub loop-label-init : goal.loop-label-init
loop-label-init c = counts-none c.args.labels.now

pub overflow_add-counts : goal.overflow_add-counts
overflow_add-counts c =
    let small : c.from.result < 256 = omega (arith, c.type_inv.labels c.loop-label.label-index) in
    let most = counts-most _ c.loop-label.counts _ small c.loop-label.invariant in
    omega (arith, most, length-take-le c.loop-label.label-index c.args.labels.now)

pub loop-label-preserved : goal.loop-label-preserved
loop-label-preserved c =
    let i = c.loop-label.label-index in
    let small : get_or c.args.labels.now i 0 < 256 = omega (arith, c.type_inv.labels i) in
    rw c.from.ensures (counts-on c.args.labels.now c.loop-label.counts i c.loop-label-test.true small c.loop-label.invariant)
