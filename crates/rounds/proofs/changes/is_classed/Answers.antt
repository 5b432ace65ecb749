-- One more item is classed.
use Rattle.rounds.specs.Changes.{ItemClassed}
use Rattle.comparison.specs.Laws.Steps.{each_on, each_over}
use Rattle.rounds.proofs.changes.is_classed.Goals as goal

pub loop-x-preserved : goal.loop-x-preserved
loop-x-preserved c =
    λ opened. each_on (ItemClassed c.args.graph) c.loop-x.x (c.loop-x.invariant opened)
    (c.is_item_classed.ensures c.if-not-is_item_classed.false opened c.loop-x-test.true)

pub returns : goal.returns
returns c =
    λ _ opened. each_over (ItemClassed c.args.graph) c.args.graph.n c.loop-x.x c.loop-x-test.false (c.loop-x.invariant opened)
