-- `list_ways` meets its contract. Assumes nothing.
use native.Mathlib.Omega.{arith}
use Rattle.regions.specs.Explore.{regions_of}
use Rattle.regions.specs.Laws.Sight.{ways-whole}
use Rattle.regions.proofs.sight.list_ways.Goals as goal

pub returns-clause-ways : goal.returns-clause-ways
returns-clause-ways c =
    let loop = c.loop-i in
    λ m e reads edge fit.
    let count = c.branch_count.ensures.value_2 m e edge in
    let few = fit.few in
    ways-whole m (regions_of c.args.found) c.args.marks.now.region e c.args.at loop.i loop.rows
    (omega (arith, c.loop-i-test.false, loop.auto.i-end, c.min-count.ensures, count, few)) (loop.invariant.1 m e reads edge fit)
