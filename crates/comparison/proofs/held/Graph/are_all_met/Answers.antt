-- `are_all_met` answers true only where each available edge is marked.
use Rattle.std.proofs.Common.{arith, rules, ◌≡◌, get_or, inl, inr}
use borrow.Author.Tests.{tests}
use Rattle.bisimulation.proofs.Laws.Tests.{clash}
use Rattle.comparison.proofs.Laws.Opens.{all-open}
use Rattle.comparison.proofs.Laws.Walks.{past-first}
use Rattle.comparison.proofs.held.Graph.are_all_met.Goals as goal

pub returns : goal.returns
returns c =
    let g = c.args.self in
    let args = c.args in
    λ t opened hx.
    elim (all-open _ g args.x g.k (λ e. get_or args.met.now e 0 ≡ 1) (Unit {0}) _ c.all.new.self c.all.result
    (λ e q h ready k. search (rules, tests)) (λ e q h ready k. tt) (past-first opened hx (omega arith) c.open.ensures.0) c.all.ensures.ran) [
      | inl (_, all) ↦ all
      | inr (f, _) ↦ absurd (clash t f)
    ]
