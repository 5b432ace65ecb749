-- The clocks of the items that were passed are marked.
use Rattle.std.proofs.Common.{ℕ, ◌<◌}
use Rattle.rounds.specs.Changes.{MarkedAt}
use Rattle.rounds.proofs.changes.mark_classes.Given as goal

abbrev pub invariant-loop-x : goal.invariant-loop-x
invariant-loop-x l = (y : ℕ) → y < l.x → MarkedAt l.graph l.changed l.marks y
