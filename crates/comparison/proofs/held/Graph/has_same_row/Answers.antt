-- `has_same_row` compares the numbers of both rows, one by one.
use Rattle.std.proofs.Common.{arith, rules, ℕ, sym, ◌∙◌, ap, eqb, eqb-true}
use Rattle.bisimulation.specs.Finite.{all_below}
use Rattle.bisimulation.proofs.Laws.Tests.{all-below}
use Rattle.comparison.specs.Graphs.{count, weight}
use Rattle.comparison.proofs.Laws.Runs.{all-range}
use Rattle.comparison.proofs.held.Graph.has_same_row.Goals as goal

pub returns : goal.returns
returns c =
    let g = c.args.self in
    let e = c.args.e in
    let f = c.args.f in
    let test = λ (i : ℕ). eqb (weight g e i) (weight g f i) in
    let told = all-range test _ _ _ _ (λ x b q h k. search rules) c.all.ensures.ran in
    λ t. record {
      action = omega arith;
      whole = omega arith;
      count = omega arith;
      weight = λ i h. eqb-true (weight g e i) (weight g f i) ((all-below (count g e) test).0 (sym (told ∙ ap (λ (n : ℕ). all_below n test) c.count_at-2.ensures.0) ∙ t) i h);
    }
