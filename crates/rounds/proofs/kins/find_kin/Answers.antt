-- What is tried is an earlier item.
use Rattle.std.proofs.Common.{◌<◌, arith}
use Rattle.comparison.specs.Laws.Keyed.{twins-meet}
use Rattle.rounds.specs.Laws.Rounds.{linked-below}
use Rattle.rounds.proofs.kins.find_kin.Goals as goal

pub returns-then-is_twin : goal.returns-then-is_twin
returns-then-is_twin c =
    let kin = c.in_ok-kin.kin in
    let args = c.args in
    λ F held closed hx known first.
    let below : kin < args.x = rw (c.in_ok-kin.was) at (c.loop.invariant known first) in
    let inside : kin < args.graph.n = omega (arith, below, hx) in
    rw (c.in_ok-kin.was) (
      below,
      twins-meet held closed args.names.now kin args.x inside hx
          (c.is_twin.ensures.y_value c.if-is_twin.true held.onward held.opened inside hx),
    )

pub loop-preserved : goal.loop-preserved
loop-preserved c =
    λ known first. linked-below c.args.kins.now.links c.args.x c.in_ok-kin.kin c.before-tried.result c.before-tried.ensures known.links
