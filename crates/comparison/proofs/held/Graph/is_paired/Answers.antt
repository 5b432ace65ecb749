-- `is_paired` compares the rows, and where each branch leads.
use Rattle.std.proofs.Common.{rules, ℕ, sym, ◌∙◌, ap}
use Rattle.bisimulation.specs.Finite.{related, all_below}
use Rattle.bisimulation.proofs.Laws.Tests.{all-below}
use Rattle.comparison.specs.Graphs.{count, target_at}
use Rattle.comparison.specs.Laws.Twins.{both-alike}
use Rattle.comparison.proofs.Laws.Runs.{all-range}
use Rattle.comparison.proofs.held.Graph.is_paired.Goals as goal

pub returns-then-has_same_row : goal.returns-then-has_same_row
returns-then-has_same_row c =
    let g = c.args.self in
    let args = c.args in
    let test = λ (i : ℕ). related args.list.now (target_at g args.x args.e i) (target_at g args.y args.f i) in
    let told = all-range test _ _ _ _ (λ x b q h k. search rules) c.all.ensures.ran in
    λ t. both-alike args.list.now g.resets.now g.spots.now g.rows.now args.x args.e args.y args.f
    (c.has_same_row.ensures c.if-has_same_row.true)
    ((all-below (count g args.e) test).0 (sym (told ∙ ap (λ (n : ℕ). all_below n test) c.count_at.ensures.0) ∙ t))
