-- `is_first_into` tells whether no branch below leads to the block.
use Rattle.std.proofs.Common.{rules, ℕ, ap, ◌∙◌, eqb, not}
use Rattle.bisimulation.specs.Finite.{some_below}
use Rattle.comparison.specs.Keys.{is_first_into}
use Rattle.comparison.specs.Graphs.{number_of}
use Rattle.comparison.proofs.Laws.Runs.{any-range}
use Rattle.comparison.proofs.shares.Landing.is_first_into.Goals as goal

pub returns : goal.returns
unfolding is_first_into
returns c =
    let s = c.args.self.now in
    let test = λ (w : ℕ) (j : ℕ). eqb (number_of s.graph s.list.now s.x s.e j) w in
    λ b same inside.
    ap not
    (any-range (test c.args.v) _ _ _ _ (λ x b q h k. search rules) c.any.ensures.ran
    ∙ ap (λ (w : ℕ). some_below c.args.i (test w)) same)
