-- `is_met` tells whether the edge is marked, and else whether a search finds an answer.
use Rattle.std.proofs.Common.{◌∙◌}
use Rattle.comparison.specs.Laws.Codes.{told_at_lem}
use Rattle.comparison.proofs.Laws.Shares.{found-tells}
use Rattle.comparison.proofs.held.Graph.is_met.Goals as goal

pub returns-else-at-eq1 : goal.returns-else-at-eq1
returns-else-at-eq1 c =
    let g = c.args.self in
    let args = c.args in
    let one = args.one in
    let other = args.other.item in
    λ opened hx hy ready coded coded' told met.
    c.is_some.ensures
    ∙ found-tells g args.list.now one.item args.e other c.find_answer.result
    (c.find_answer.ensures opened hy coded'
    (told_at_lem g.k args.list.now g.flags.now g.resets.now g.spots.now g.rows.now one.item other args.e c.at-else-at-eq1.result
    one.codes.now told coded c.requires.2 ready c.at-else-at-eq1.ensures))
