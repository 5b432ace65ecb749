-- `code` joins the action and where the edge leads.
use Rattle.std.proofs.Common.{ℕ, ◌∙◌, ap₂}
use Rattle.comparison.specs.Keys.{joined, code_of}
use Rattle.comparison.proofs.shares.Landing.code.Goals as goal

pub returns : goal.returns
unfolding code_of
returns c =
    let joined-of = c.joined_of.ensures in
    (joined-of.0 ∙ ap₂ (λ (a m : ℕ). joined a m) c.action_at.ensures.0 c.landed.ensures, joined-of.1)
