-- `is_twin` answers true only where the next round relates the two.
use Rattle.std.proofs.Common.{sym, ◌∙◌}
use Rattle.comparison.specs.Laws.Twins.{twin-next}
use Rattle.comparison.proofs.held.Graph.is_twin.Goals as goal

pub returns-then-may_be_paired-clause-y_value : goal.returns-then-may_be_paired-clause-y_value
returns-then-may_be_paired-clause-y_value c =
    let g = c.args.self in
    let args = c.args in
    λ t onward opened hx hy.
    let same = sym c.is_related.ensures ∙ c.if-not-is_related.false in
    twin-next g.n g.k args.list.now g.nexts.now g.flags.now g.resets.now g.spots.now g.rows.now args.x args.y same
    (c.runs_alike.ensures c.if-not-runs_alike.false onward hx hy same) (c.are_paired.ensures t opened hx hy)
