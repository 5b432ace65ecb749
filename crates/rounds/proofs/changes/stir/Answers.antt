-- Items that are still, and that no change reaches by an edge, are calm.
use Rattle.rounds.specs.Laws.Changes.{spared-stirred}
use Rattle.rounds.proofs.changes.stir.Goals as goal

pub returns-then-is_still : goal.returns-then-is_still
returns-then-is_still c =
    λ opened classed. spared-stirred c.args.graph c.args.changed.now c.mark_still-still.result c.stir_some.new.stirred
    (c.is_still.ensures c.if-is_still.true) (classed c.if-classed.true) (c.stir_some.ensures opened)
