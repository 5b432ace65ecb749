-- `is_into` tells whether the number of some branch's block is v.
use Rattle.std.proofs.Common.{rules, ℕ, ap, ◌∙◌, eqb}
use Rattle.bisimulation.specs.Finite.{some_below}
use Rattle.comparison.specs.Graphs.{number_of}
use Rattle.comparison.proofs.Laws.Runs.{any-range}
use Rattle.comparison.proofs.shares.Landing.is_into.Goals as goal

pub returns : goal.returns
returns c =
    let s = c.args.self.now in
    let test = λ (i : ℕ). eqb (number_of s.graph s.list.now s.x s.e i) c.args.v in
    any-range test _ _ _ _ (λ x b q h k. search rules) c.any.ensures.ran ∙ ap (λ (n : ℕ). some_below n test) c.count_at.ensures.0
