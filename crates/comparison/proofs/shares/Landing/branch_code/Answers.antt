-- `branch_code` counts the block of a branch that is the first into it.
use Rattle.std.proofs.Common.{sym, ◌∙◌, refl}
use Rattle.comparison.specs.Keys.{landed_by}
use Rattle.comparison.specs.Graphs.{target_at}
use Rattle.comparison.proofs.shares.Landing.branch_code.Goals as goal

pub returns-then-is_first_into-clause-value : goal.returns-then-is_first_into-clause-value
unfolding landed_by
returns-then-is_first_into-clause-value c =
    let s = c.args.self.now in
    let target = target_at s.graph s.x s.e c.args.i in
    λ h.
    let number = c.number-v.ensures h in
    rw (sym (c.is_first_into.ensures target number h) ∙ c.if-is_first_into.true) (c.block_code.ensures.value target number)

pub returns-else-is_first_into-clause-value : goal.returns-else-is_first_into-clause-value
unfolding landed_by
returns-else-is_first_into-clause-value c =
    let s = c.args.self.now in
    let target = target_at s.graph s.x s.e c.args.i in
    λ h. rw (sym (c.is_first_into.ensures target (c.number-v.ensures h) h) ∙ c.if-is_first_into.false) refl
