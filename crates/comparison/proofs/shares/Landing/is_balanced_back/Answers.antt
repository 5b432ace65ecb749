-- `is_balanced_back` tells whether both edges land the same share at each target of the other, where they do at each target of this one.
use Rattle.std.proofs.Common.{rules, ℕ, ap, ◌∙◌}
use Rattle.bisimulation.specs.Finite.{all_below}
use Rattle.comparison.specs.Graphs.{target_at}
use Rattle.comparison.specs.Shares.{balanced_by}
use Rattle.comparison.proofs.Laws.Runs.{all-range}
use Rattle.comparison.proofs.Laws.Shares.{balanced-into}
use Rattle.comparison.proofs.shares.Landing.is_balanced_back.Goals as goal

pub returns : goal.returns
returns c =
    let s = c.args.self.now in
    let o = c.args.other.now in
    let same = c.requires in
    let test = λ (i : ℕ). balanced_by s.graph s.list.now s.x s.e o.graph o.list.now o.x o.e (target_at o.graph o.x o.e i) in
    λ there.
    let into = λ (d : ℕ). balanced-into s.graph o.graph s.list.now o.list.now same s.x s.e o.x o.e d there in
    all-range test _ _ _ _ (λ x b q h k. let m = k.met in search (rules, into)) c.all.ensures.ran ∙ ap (λ (n : ℕ). all_below n test) c.count_at.ensures.0
