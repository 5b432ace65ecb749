-- `is_own_pair` answers true only for an edge that is available at y, and alike to itself at x.
use Rattle.std.proofs.Common.{sym, ◌∙◌}
use Rattle.comparison.specs.Laws.Compare.{answers-on}
use Rattle.comparison.proofs.held.Graph.is_own_pair.Goals as goal

pub returns-then-is_open : goal.returns-then-is_open
returns-then-is_open c =
    let g = c.args.self in
    let args = c.args in
    λ t.
    answers-on args.list.now g.flags.now g.resets.now g.spots.now g.rows.now args.x args.e args.y args.e
    (sym c.is_open.ensures ∙ c.if-is_open.true)
    ∙ (c.is_paired.ensures t).0
