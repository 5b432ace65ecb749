-- `is_balanced_there` tells whether both edges land the same share at each target of this one.
use Rattle.std.proofs.Common.{rules, ℕ, ap, ◌∙◌}
use Rattle.bisimulation.specs.Finite.{all_below}
use Rattle.comparison.specs.Graphs.{target_at}
use Rattle.comparison.specs.Shares.{balanced_by}
use Rattle.comparison.proofs.Laws.Runs.{all-range}
use Rattle.comparison.proofs.shares.Landing.is_balanced_there.Goals as goal

pub returns : goal.returns
returns c =
    let s = c.args.self.now in
    let o = c.args.other.now in
    let same = c.requires in
    let test = λ (i : ℕ). balanced_by s.graph s.list.now s.x s.e o.graph o.list.now o.x o.e (target_at s.graph s.x s.e i) in
    all-range test _ _ _ _ (λ x b q h k. search rules) c.all.ensures.ran ∙ ap (λ (n : ℕ). all_below n test) c.count_at.ensures.0
