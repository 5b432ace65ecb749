-- `rest_match` tells whether each available edge has an answer.
use Rattle.std.proofs.Common.{arith, rules, ◌≡◌, inl, inr, sym, ◌∙◌, true, false}
use Rattle.comparison.specs.Graphs.{edges_answered, some_answers}
use Rattle.comparison.specs.Laws.Codes.{one-unanswered, all-answered}
use Rattle.comparison.proofs.Laws.Opens.{all-open, open-callable}
use Rattle.comparison.proofs.Laws.Walks.{past-first}
use Rattle.comparison.proofs.held.Graph.rest_match.Goals as goal

pub all-requires-clause-callable : goal.all-requires-clause-callable
all-requires-clause-callable c =
    open-callable _ true c.args.self.k _ c.open.ensures.1 (λ e q h k. search rules) (λ e h. search rules)

pub returns : goal.returns
returns c =
    let g = c.args.self in
    let list = c.args.list.now in
    let one = c.args.one.item in
    let other = c.args.other.item in
    λ opened hx hy coded coded' told met.
    elim (all-open _ g one g.k (λ e. some_answers g list one e other ≡ true) (edges_answered g list one other ≡ false) _ c.all.new.self
    c.all.result
    (λ e q h ready k. search rules)
    (λ e q h ready k. one-unanswered g.k list g.flags.now g.resets.now g.spots.now g.rows.now one other e h ready (search rules))
    (past-first opened hx (omega arith) c.open.ensures.0) c.all.ensures.ran) [
      | inl (t, all) ↦ t ∙ sym (all-answered g.k list g.flags.now g.resets.now g.spots.now g.rows.now one other all)
      | inr (t, none) ↦ t ∙ sym none
    ]
