-- `edges_agree` looks for answers one way, and then for those that were not met the other way.
use Rattle.std.proofs.Common.{sym, ◌∙◌}
use Rattle.comparison.specs.Graphs.{edges_answered}
use Rattle.comparison.specs.Laws.Codes.{all-answered, met-none}
use Rattle.comparison.specs.Laws.KeyLoops.{and_no, and_yes}
use Rattle.comparison.proofs.held.Graph.edges_agree.Goals as goal

pub returns-else-edges_match : goal.returns-else-edges_match
returns-else-edges_match c =
    let g = c.args.self in
    let list = c.args.list.now in
    let one = c.args.one.item in
    let other = c.args.other.item in
    λ opened hx hy coded coded' there back own.
    let none = met-none g.k list g.flags.now g.resets.now g.spots.now g.rows.now other one 128 in
    let (same, _) = c.edges_match.ensures opened hx hy coded coded' there own none in
    c.if-edges_match.false
    ∙ sym (and_no (edges_answered g list one other) (edges_answered g list other one) (sym same ∙ c.if-edges_match.false))

pub returns-then-are_all_met : goal.returns-then-are_all_met
returns-then-are_all_met c =
    let g = c.args.self in
    let list = c.args.list.now in
    let one = c.args.one.item in
    let other = c.args.other.item in
    λ opened hx hy coded coded' there back own.
    let none = met-none g.k list g.flags.now g.resets.now g.spots.now g.rows.now other one 128 in
    let (same, met) = c.edges_match.ensures opened hx hy coded coded' there own none in
    c.if-are_all_met.true
    ∙ sym (and_yes (edges_answered g list one other) (edges_answered g list other one) (sym same ∙ c.if-edges_match.true)
    ∙ all-answered g.k list g.flags.now g.resets.now g.spots.now g.rows.now other one
    (λ f hf ready. met f (c.are_all_met.ensures c.if-are_all_met.true opened hy f hf ready)))

pub returns-else-are_all_met : goal.returns-else-are_all_met
returns-else-are_all_met c =
    let g = c.args.self in
    let list = c.args.list.now in
    let one = c.args.one.item in
    let other = c.args.other.item in
    λ opened hx hy coded coded' there back own.
    let none = met-none g.k list g.flags.now g.resets.now g.spots.now g.rows.now other one 128 in
    let (same, met) = c.edges_match.ensures opened hx hy coded coded' there own none in
    c.rest_match.ensures opened hy hx coded' coded back met
    ∙ sym (and_yes (edges_answered g list one other) (edges_answered g list other one) (sym same ∙ c.if-edges_match.true))
